-- The request of a walk comes to the part of its vertex, which shows what the graph has there.
use Rattle.std.proofs.Common.{◌≡◌, ℕ, ℤ, ◌+◌, ◌-◌, length, List, [], ◌∷◌, ◌++◌, replicate, Option, Some, None, Bool, true, false, zero, suc, refl, ap, sym, ◌∙◌, arith, length-append}
use Rattle.std.specs.Prelude.{◌&&◌, if◌then◌else◌, slice_index}
use Rattle.std.specs.Option.{option_map, option_and_then}
use Rattle.std.specs.List.{list_any}
use Rattle.std.specs.Ordering.{int_eq}
use Rattle.std.specs.FinMap.{get}
use Rattle.std.proofs.lemmas.Bool.Decides.{Decides-int_eq}
use Rattle.first_graph.specs.Keys.{edge_of}
use Rattle.first_graph.specs.Contents.{row_of}
use Rattle.first_graph.specs.Views.{view_of, is_wanted, found_out, found_in}
use Rattle.first_graph.specs.Machine.{Machine}
use Rattle.first_graph.specs.declared.val.Val.{Val}
use Rattle.first_graph.specs.declared.half.Half.{Half}
use Rattle.first_graph.specs.declared.half.Half.TheVariants.{Absent, Here}
use Rattle.first_graph.specs.declared.edge_id.EdgeId.{EdgeId}
use Rattle.first_graph.specs.declared.in_key.InKey.{InKey}
use Rattle.first_graph.specs.declared.found.Found.{Found}
use Rattle.first_graph.specs.declared.query.Query.{Query}
use Rattle.first_graph.specs.declared.query.Query.TheVariants.{Out, In}
use Rattle.first_graph.specs.declared.op.Op.TheVariants.{Read as ReadOp}
use Rattle.first_graph.specs.declared.answer.Answer.TheVariants.{Shown as ShownAnswer}
use Rattle.first_graph.specs.declared.call.CallState.TheVariants.{Open}
use Rattle.first_graph.proofs.KeyLemmas.{edges_total, edges_exact, ins_total, ins_exact}
use Rattle.first_part.specs.InHalf.{number_of, row_in}
use Rattle.first_part.specs.Part.{seen, found_here}
use Rattle.first_part.specs.declared.in_halves.InHalf.{InHalf}
use Rattle.first_part.specs.declared.entry.PartEntry.TheVariants.{Read}
use Rattle.first_part.specs.declared.applied.Applied.TheVariants.{Shown}
use Rattle.nebstore_app.specs.declared.event.Event.TheVariants.{Deliver}
use Rattle.nebstore_app.specs.Packets.{part_of, the_client, request, answer_packet}
use Rattle.nebstore_app.specs.World.{World, replica_of, last_call}
use Rattle.nebstore_app.specs.Steps.{Tally, sent_so_far}
use Rattle.nebstore_app.proofs.Found.{same_found}
use Rattle.nebstore_app.proofs.Homes.{replica_alike}
use Rattle.nebstore_app.proofs.Delivery.{came, then_applied, then_delivered, Brings, delivery, delivery_steps, decided_grows, sent_before, sent_behind}
use Rattle.nebstore_app.proofs.Tied.{home, kept_number, Tied, NoChain, CallIs, UnderWay, answered, Next, next, moments_counted, read}

nothing_found : {A B : Type 0} (f : A → Option B) (o : Option A) → ((x : A) → f x ≡ None) → option_and_then f o ≡ None
nothing_found f None none = refl
nothing_found f (Some x) none = none x

same_of_eq : (x y : ℤ) → int_eq x y ≡ true → x ≡ y
same_of_eq x y h = (Decides-int_eq x y).0 h

-- at each edge the part and the graph show the same of a vertex that the part holds
out_alike : (w : World) (t : Tally) (g : Machine) (u : ℤ) (types : List ℤ) → Tied w t g → (q : EdgeId)
    → option_and_then (λ row. found_out u types (q, row)) (get (home w u).out q) ≡ option_and_then (λ row. found_out u types (q, row)) (get g.contents.out q)
out_alike w t g u types tied q =
    elim (int_eq q.src u) as (λ b. int_eq q.src u ≡ b → option_and_then (λ row. found_out u types (q, row)) (get (home w u).out q) ≡ option_and_then (λ row. found_out u types (q, row)) (get g.contents.out q)) [
      | true ↦ λ h. ap (option_and_then (λ row. found_out u types (q, row))) (ap (λ v. get (home w v).out q) (sym (same_of_eq q.src u h)) ∙ sym (tied.out q))
      | false ↦ λ h.
          let none = λ (row : List Val). ap (λ b. if b && list_any (λ x. int_eq x q.etype) types then Some (record { edge = Some q; inward = false; row = row }) else None) h in
          nothing_found (λ row. found_out u types (q, row)) (get (home w u).out q) none ∙ sym (nothing_found (λ row. found_out u types (q, row)) (get g.contents.out q) none)
    ] refl

-- a found in-half is one whose row is here
here_alike : (b : Bool) (k : InKey) (o : Option InHalf)
    → option_and_then {U = Found} (λ half. if b then option_map (λ row. record { edge = Some (edge_of k); inward = true; row = row }) (row_of half.half) else None) o
    ≡ option_and_then {U = Found} (λ row. if b then Some (record { edge = Some (edge_of k); inward = true; row = row }) else None) (row_in o)
here_alike b k None = refl
here_alike b k (Some kept) = here_half b k kept.half
  where
    here_half : (b : Bool) (k : InKey) (half : Half)
        → (if b then option_map (λ row. record { edge = Some (edge_of k); inward = true; row = row }) (row_of half) else None)
        ≡ option_and_then {U = Found} (λ row. if b then Some (record { edge = Some (edge_of k); inward = true; row = row }) else None) (row_of half)
    here_half true k Absent = refl
    here_half false k Absent = refl
    here_half true k (Here row) = refl
    here_half false k (Here row) = refl

in_alike : (w : World) (t : Tally) (g : Machine) (u : ℤ) (types : List ℤ) → Tied w t g → (k : InKey)
    → option_and_then (λ half. found_here u types (k, half)) (get (home w u).inn k) ≡ option_and_then (λ row. found_in u types (k, row)) (get g.contents.inn k)
in_alike w t g u types tied k =
    elim (int_eq k.dst u) as (λ b. int_eq k.dst u ≡ b → option_and_then (λ half. found_here u types (k, half)) (get (home w u).inn k) ≡ option_and_then (λ row. found_in u types (k, row)) (get g.contents.inn k)) [
      | true ↦ λ h.
          here_alike (is_wanted u types k.dst k.etype) k (get (home w u).inn k)
          ∙ ap (option_and_then (λ row. found_in u types (k, row))) (ap (λ v. row_in (get (home w v).inn k)) (sym (same_of_eq k.dst u h)) ∙ sym (tied.inn k))
      | false ↦ λ h.
          let none_here = λ (half : InHalf). ap (λ b. if b && list_any (λ x. int_eq x k.etype) types then option_map (λ row. record { edge = Some (edge_of k); inward = true; row = row }) (row_of half.half) else None) h in
          let none_in = λ (row : List Val). ap (λ b. if b && list_any (λ x. int_eq x k.etype) types then Some (record { edge = Some (edge_of k); inward = true; row = row }) else None) h in
          nothing_found (λ half. found_here u types (k, half)) (get (home w u).inn k) none_here ∙ sym (nothing_found (λ row. found_in u types (k, row)) (get g.contents.inn k) none_in)
    ] refl

pub out_same : (w : World) (t : Tally) (g : Machine) (u : ℤ) (types : List ℤ) → Tied w t g → seen (Out u types) (home w u) ≡ view_of (Out u types) g.contents
out_same w t g u types tied = same_found edges_total edges_exact (found_out u types) (found_out u types) (home w u).out g.contents.out (out_alike w t g u types tied)

pub in_same : (w : World) (t : Tally) (g : Machine) (u : ℤ) (types : List ℤ) → Tied w t g → seen (In u types) (home w u) ≡ view_of (In u types) g.contents
in_same w t g u types tied = same_found ins_total ins_exact (found_here u types) (found_in u types) (home w u).inn g.contents.inn (in_alike w t g u types tied)

-- the moment of the one packet that was sent now
moment_at : (ms : List ℕ) (given n : ℕ) → length ms ≡ n → slice_index (ms ++ given ∷ []) n ≡ given
moment_at [] given n is = ap (slice_index (given ∷ [])) (sym is)
moment_at (m ∷ ms) given zero is = cc
moment_at (m ∷ ms) given (suc n) is = moment_at ms given n (omega (arith, is))

one_sent : (a b n : ℕ) → a ≡ n + 1 → b ≡ n + 1 + 1 → b - a ≡ 1
one_sent a b n before behind = omega (arith, before, behind)

pub read_next : (w : World) (t : Tally) (g : Machine) (k : ℕ) (u : ℤ) (q : Query) → Tied w t g → seen q (home w u) ≡ view_of q g.contents
    → UnderWay w (request (last_call w) u (Read (last_call w) q)) → CallIs g (last_call w) (ReadOp q) Open → NoChain w g → Next w t g (Deliver k)
read_next w t g k u q tied same way call none =
    let id = last_call w in
    let entry = Read id q in
    let p = request id u entry in
    let j = part_of u in
    let r = replica_of w j in
    let view = seen q r.machine in
    let packet = Some (answer_packet j id (ShownAnswer view)) in
    let rr = then_applied r entry r.machine in
    let v = then_delivered w p j entry r.machine packet k in
    let b : Brings w p j entry r.machine (Shown id view) packet = record { alone = way.alone; brings = refl; applies = refl; sends = refl } in
    let before = sent_before w p way.alone in
    let behind = sent_behind w p (answer_packet j id (ShownAnswer view) ∷ []) in
    let grows = decided_grows w p j entry r.machine packet k in
    let one = one_sent (sent_so_far w) (sent_so_far v) (length w.passed) before behind in
    let counted = tied.counted in
    let placed = length-append w.passed (p ∷ []) in
    next w t g (Deliver k) v [] g
    (delivery w p j entry r.machine (Shown id view) packet k b) (delivery_steps w t p j entry r.machine (Shown id view) packet k b)
    refl
    (record {
      out = λ x. tied.out x ∙ sym (ap (λ mm. get mm x) (replica_alike (λ s. s.machine.out) (came w p) j rr packet refl (part_of x.src)));
      inn = λ x. tied.inn x ∙ sym (ap (λ mm. row_in (get mm x)) (replica_alike (λ s. s.machine.inn) (came w p) j rr packet refl (part_of x.dst)));
      numbers = λ x.
          let as_before = ap (λ mm. number_of (get mm x)) (replica_alike (λ s. s.machine.inn) (came w p) j rr packet refl (part_of x.dst)) in
          let was = tied.numbers x in
          let more = grows (part_of x.src) in
          omega (arith, as_before, was, more);
      kept = λ i. let alike = ap (λ mm. kept_number (get mm the_client)) (replica_alike (λ s. s.machine.kept) (came w p) j rr packet refl i) in let was = tied.kept i in omega (arith, alike, was);
      fresh = tied.fresh;
      counted = moments_counted t.moments (sent_so_far w) (sent_so_far v) t.given tied.counted (omega (arith, before, behind));
      given = let is = tied.given in omega (arith, is);
      now = tied.now;
    })
    (answered (record {
      part = j;
      answer = ShownAnswer view;
      way = record { calling = way.calling; nothing_due = way.nothing_due; alone = refl };
      right = read q view (record { call = call.call; known = call.known; does = call.does; is = call.is; unsaid = call.unsaid; since = call.since }) same
          (ap (λ n. slice_index (t.moments ++ replicate n t.given) (length (w.passed ++ p ∷ []))) one
          ∙ moment_at t.moments t.given (length (w.passed ++ p ∷ [])) (omega (arith, counted, before, placed)) ∙ tied.given);
      no_chain = record {
        pend = none.pend;
        primes = λ x. ap (λ mm. get mm x) (replica_alike (λ s. s.machine.primes) (came w p) j rr packet refl (part_of x.src)) ∙ none.primes x;
      };
    }))
