-- A Double that was proposed is of a call that was given up there: what one leader's moves keep of it.
use Rattle.std.proofs.Common.{◌≡◌, inl, inr, ℕ, ◌+◌, ◌≤◌, List, [], ◌∷◌, ◌++◌, map, length, take, Option, Some, None, Bool, true, false, ◌&&◌, cond, refl, ap, sym, subst, ◌∙◌, arith, eqb-true}
use Rattle.std.specs.Prelude.{◌==◌, ◌-◌, nat_le, if◌then◌else◌}
use Rattle.std.specs.List.{AllByRecursion}
use Rattle.std.specs.Prelude.{nat_lt}
use Rattle.std.specs.Option.{unwrap_or}
use Rattle.std.specs.FinMap.{get, entries}
use Rattle.std.proofs.lemmas.Bool.{false≢true, cond_both, and_parts, leb-true, leb-false}
use Rattle.std.proofs.lemmas.Option.{same_Some, none-some}
use Rattle.maps.proofs.Keys.{nat_keys}
use Rattle.maps.proofs.Found.{entries_got}
use Rattle.graph_model.specs.declared.call_id.CallId.{CallId}
use Rattle.part_keys.specs.declared.chain.ChainState.{ChainState}
use Rattle.part_keys.specs.declared.chain.PrimeRec.{PrimeRec}
use Rattle.part_keys.specs.declared.chain.Mode.{Mode}
use Rattle.part_keys.specs.declared.chain.Mode.TheVariants as mode
use Rattle.part_keys.specs.declared.proposal.Proposal.{Proposal}
use Rattle.part_keys.specs.declared.proposal.Proposal.TheVariants.{Start, Members, Made, Blank}
use Rattle.part_keys.specs.declared.entry.PartEntry.{PartEntry}
use Rattle.part_keys.specs.declared.entry.PartEntry.TheVariants as entry
use Rattle.part_keys.specs.Routing.{is_payload}
use Rattle.part_rules.specs.Part.{Part}
use Rattle.chain_leader.specs.declared.body.ChainBody.{ChainBody}
use Rattle.chain_leader.specs.declared.body.ChainBody.TheVariants as says
use Rattle.chain_leader.specs.Calls.{is_write}
use Rattle.chain_leader.specs.Rules.{Table, asks_once, ending_done, ending_fenced}
use Rattle.chain_leader.specs.Leading.{Taken, still, proposing, listed, asking, standing_behind, resuming, taken}
use Rattle.part_keys.specs.declared.vid_kind.VidKind.{VidKind}
use Rattle.chain_world.specs.declared.packet.ChainEnd.{ChainEnd}
use Rattle.chain_world.specs.Course.{Courses}
use Rattle.chain_world.specs.Places.{Among}
use Rattle.chain_world.specs.State.{Post, Leader, Chains, decided_of, machine_behind, made_by_leader}
use Rattle.chain_world.specs.World.{part_from, kept_sender, with_taken}
use Rattle.chain_world.specs.Invariant.Protocol.{IsKept, StandsAt}
use Rattle.chain_world.specs.Invariant.Doubling.{IsOf, RowsAre, AreDoubling}
use Rattle.chain_world.proofs.Members.{among_either}
use Rattle.chain_world.proofs.Staying.{gone_on}
use Rattle.chain_world.proofs.Moving.{leader_set, set_split}
use Rattle.chain_world.proofs.Fronts.{numbered, stood, same_id}
use Rattle.chain_world.proofs.Growing.{Longer, stood_then}
use Rattle.chain_world.proofs.Tables.{asks_cases}
use Rattle.chain_world.proofs.Packets.{all_first, all_where}
use Rattle.chain_world.proofs.Calls.{rows_asks, resumes_are}

-- a Double
abbrev pub is_double : Proposal → Bool
is_double Start = false
is_double (Members config) = false
is_double (Made (entry.Prime id list absent)) = false
is_double (Made (entry.Local v)) = false
is_double (Made (entry.Double v)) = true
is_double (Made (entry.Close v)) = false
is_double (Made (entry.Abort v)) = false
is_double (Made (entry.Remote q t v list)) = false
is_double (Made (entry.Fence q t v edges)) = false
is_double (Made (entry.Vertex id op)) = false
is_double (Made (entry.Read id query)) = false
is_double Blank = false

abbrev pub NoDoubles : List Proposal → Type 0
NoDoubles xs = (x : Proposal) → Among x xs → is_double x ≡ false

module _ (parts : ℕ) where
  -- a chain that stands behind a front is of its call
  pub stands_of : (decided : List (ℕ × Proposal)) (n v : ℕ) (rec : PrimeRec) → n ≤ length decided → StandsAt parts decided n v rec → IsOf parts decided rec.v rec.id
  stands_of decided n v rec h at =
      let m = numbered parts decided n h v rec at in
      let le = m.0 in
      let eq = m.1 in
      record {
        within = omega arith;
        its = λ i other le_i there. same_id parts decided n i v rec other h le_i at (subst (λ (w : ℕ). StandsAt parts decided i w other) eq there);
      }

  -- it is still where the list goes on
  pub of_on : (old new : List (ℕ × Proposal)) → Longer old new → (v : ℕ) (id : CallId) → IsOf parts old v id → IsOf parts new v id
  of_on old new longer v id of = record {
    within = let a = of.within in let b = longer.length_grows in omega arith;
    its = λ n rec h at. by_length n rec h at (nat_le n (length old)) refl;
  }
    where
      by_length : (n : ℕ) (rec : PrimeRec) → n ≤ length new → StandsAt parts new n v rec → (b : Bool) → nat_le n (length old) ≡ b → rec.id ≡ id
      by_length n rec h at true e = of.its n rec (leb-true n (length old) e) (stood_then parts old new longer n v rec (leb-true n (length old) e) at)
      by_length n rec h at false e =
          let lt = leb-false n (length old) e in
          let whole : n ≡ (n - length old) + length old = omega arith in
          let r = stood parts new (n - length old) (length old) v rec (omega arith) of.within (subst (λ (i : ℕ). StandsAt parts new i v rec) whole at) in
          r.2 ∙ of.its (length old) r.0 (omega arith) (stood_then parts old new longer (length old) v r.0 (omega arith) r.1)

  module _ (s : Chains) (k : Courses) (kept : IsKept parts s k) (given : ℕ → ℕ → CallId → Type 0) (are : AreDoubling parts s given) where
    -- one leader moves
    module _ (p t : ℕ) (l : Leader) (is : s.leaders p t ≡ Some l) where
      own_rows : RowsAre (IsOf parts (decided_of s p)) l.lead.table
      own_rows = are.rows p t l is

      pub moved_doubling : (behind : Leader) (xs : List Proposal) (more : List Post) → behind.made ≡ l.made ++ xs → RowsAre (IsOf parts (decided_of s p)) behind.lead.table
          → ((v : ℕ) → Among (Made (entry.Double v)) xs → (id : CallId) × IsOf parts (decided_of s p) v id × given p t id)
          → AreDoubling parts (gone_on s s.ledger.steps s.founded (leader_set s.leaders p t behind) more s.clients) given
      moved_doubling behind xs more made rows doubled = record {
        rows = λ q u x at. elim (set_split s.leaders p t behind q u x at) [
          | inl own ↦ subst (λ (n : ℕ). RowsAre (IsOf parts (decided_of s n)) x.lead.table) (sym own.0) (subst (λ (y : Leader). RowsAre (IsOf parts (decided_of s p)) y.lead.table) (sym own.2) rows)
          | inr other ↦ are.rows q u x other.0
        ];
        doubles = λ q u v. by_place q u v (u == 0) ((q == p) && (u == t)) (λ e. (let f = and_parts (q == p) (u == t) e in (eqb-true q p f.0, eqb-true u t f.1))) (are.doubles q u v);
      }
        where
          by_place : (q u v : ℕ) (a b : Bool) → (b ≡ true → (q ≡ p) × (u ≡ t))
              → (Among (Made (entry.Double v)) (cond a (s.founded q) (made_by_leader (s.leaders q u))) → (id : CallId) × IsOf parts (decided_of s q) v id × given q u id)
              → Among (Made (entry.Double v)) (cond a (s.founded q) (made_by_leader (cond b (Some behind) (s.leaders q u)))) → (id : CallId) × IsOf parts (decided_of s q) v id × given q u id
          by_place q u v true b its old among = old among
          by_place q u v false false its old among = old among
          by_place q u v false true its old among = (let e = its refl in elim (among_either _ l.made xs (subst (Among (Made (entry.Double v))) made among)) [
            | inl before ↦ old (subst (λ (o : Option Leader). Among (Made (entry.Double v)) (made_by_leader o)) (sym (ap (λ (n : ℕ). s.leaders n u) e.0 ∙ ap (s.leaders p) e.1 ∙ is)) before)
            | inr new ↦ subst (λ (n : ℕ). (id : CallId) × IsOf parts (decided_of s n) v id × given n u id) (sym e.0) (subst (λ (n : ℕ). (id : CallId) × IsOf parts (decided_of s p) v id × given p n id) (sym e.1) (doubled v new))
          ])

      -- what is taken: nothing that it proposes is a Double
      undoubled : (xs : List Proposal) → NoDoubles xs → (v : ℕ) → Among (Made (entry.Double v)) xs → (id : CallId) × IsOf parts (decided_of s p) v id × given p t id
      undoubled xs none v among = absurd (false≢true (sym (none (Made (entry.Double v)) among)))

      taken_doubling : (tk : Taken) (sender : Option ChainEnd) → RowsAre (IsOf parts (decided_of s p)) tk.leading.table → NoDoubles (map Made tk.proposals) → AreDoubling parts (with_taken s p t l tk sender) given
      taken_doubling tk sender rows none = moved_doubling _ (map Made tk.proposals) _ refl rows (undoubled (map Made tk.proposals) none)

      still_doubling : (sender : Option ChainEnd) → AreDoubling parts (with_taken s p t l (still l.lead) sender) given
      still_doubling sender = taken_doubling (still l.lead) sender own_rows (λ x none. absurd none)

      proposing_doubling : (ids : VidKind) (x : PartEntry) (sender : Option ChainEnd) → is_double (Made x) ≡ false → AreDoubling parts (with_taken s p t l (proposing ids parts p l.lead x) sender) given
      proposing_doubling ids x sender plain = cond_both (is_payload ids parts p x) _ _ (λ (tk : Taken). AreDoubling parts (with_taken s p t l tk sender) given)
          (λ _. taken_doubling (record { leading = l.lead; proposals = x ∷ []; letters = [] }) sender own_rows (λ y among. elim among [ inl same ↦ ap is_double same ∙ plain | inr none ↦ absurd none ])) (λ _. still_doubling sender)

      if_ready : (test : Bool) (tk : Taken) → AreDoubling parts (with_taken s p t l tk None) given → AreDoubling parts (with_taken s p t l (if test then tk else still l.lead) None) given
      if_ready test tk it = cond_both test tk (still l.lead) (λ (x : Taken). AreDoubling parts (with_taken s p t l x None) given) (λ _. it) (λ _. still_doubling None)

      asking_doubling : (v : ℕ) (ending : ChainState → Option PartEntry) → ((row : ChainState) (x : PartEntry) → ending row ≡ Some x → is_double (Made x) ≡ false)
          → AreDoubling parts (with_taken s p t l (asking l.lead (asks_once l.lead.table v ending (get l.lead.table v))) None) given
      asking_doubling v ending plain = taken_doubling (asking l.lead (asks_once l.lead.table v ending (get l.lead.table v))) None (rows_asks (IsOf parts (decided_of s p)) l.lead.table v ending own_rows)
          (asks_cases (λ (made : Table × Option PartEntry). NoDoubles (map Made (listed made.1))) l.lead.table v ending (λ x none. absurd none)
          (λ row x there ends y among. elim among [ inl same ↦ ap is_double same ∙ plain row x ends | inr none ↦ absurd none ]))

      done_plain : (v : ℕ) (m : Mode) (x : PartEntry) → ending_done v m ≡ Some x → is_double (Made x) ≡ false
      done_plain v mode.Put x e = ap (λ (y : PartEntry). is_double (Made y)) (sym (same_Some (entry.Local v) x e))
      done_plain v mode.Doubled x e = ap (λ (y : PartEntry). is_double (Made y)) (sym (same_Some (entry.Close v) x e))
      done_plain v mode.Fence x e = absurd (none-some x e)

      fenced_plain : (v : ℕ) (b : Bool) (m : Mode) (x : PartEntry) → ending_fenced v b m ≡ Some x → is_double (Made x) ≡ false
      fenced_plain v true mode.Fence x e = ap (λ (y : PartEntry). is_double (Made y)) (sym (same_Some (entry.Local v) x e))
      fenced_plain v false mode.Fence x e = ap (λ (y : PartEntry). is_double (Made y)) (sym (same_Some (entry.Abort v) x e))
      fenced_plain v true mode.Put x e = absurd (none-some x e)
      fenced_plain v true mode.Doubled x e = absurd (none-some x e)
      fenced_plain v false mode.Put x e = absurd (none-some x e)
      fenced_plain v false mode.Doubled x e = absurd (none-some x e)

      resuming_doubling : (after : Option ℕ) → AreDoubling parts (with_taken s p t l (resuming t l.lead (standing_behind (machine_behind parts s p l.applied) after)) None) given
      resuming_doubling after =
          let m : Part = machine_behind parts s p l.applied in
          let got = entries_got nat_keys m.chains in
          taken_doubling (resuming t l.lead (standing_behind m after)) None
          (resumes_are (IsOf parts (decided_of s p)) t l.lead.policy (take 64 (standing_behind m after)) l.lead.table own_rows
          (all_first _ 64 (standing_behind m after) (all_where _ (λ (c : ℕ × PrimeRec). nat_lt (unwrap_or after 0) c.0) (entries m.chains) (all_of (entries m.chains) got))))
          (λ x none. absurd none)
        where
          all_of : (es : List (ℕ × PrimeRec)) → AllByRecursion (λ (c : ℕ × PrimeRec). StandsAt parts (decided_of s p) l.applied c.0 c.1) es → AllByRecursion (λ (c : ℕ × PrimeRec). IsOf parts (decided_of s p) c.1.v c.1.id) es
          all_of [] all = tt
          all_of (c ∷ es) all = (stands_of (decided_of s p) l.applied c.0 c.1 (kept.leaders p t l is).within all.0, all_of es all.1)

      request_doubling : (ids : VidKind) (x : PartEntry) → AreDoubling parts (with_taken s p t l (if is_write x then proposing ids parts p l.lead x else still l.lead) None) given
      request_doubling ids (entry.Prime id list absent) = proposing_doubling ids (entry.Prime id list absent) None refl
      request_doubling ids (entry.Vertex id op) = proposing_doubling ids (entry.Vertex id op) None refl
      request_doubling ids (entry.Local v) = still_doubling None
      request_doubling ids (entry.Double v) = still_doubling None
      request_doubling ids (entry.Close v) = still_doubling None
      request_doubling ids (entry.Abort v) = still_doubling None
      request_doubling ids (entry.Remote q u v list) = still_doubling None
      request_doubling ids (entry.Fence q u v edges) = still_doubling None
      request_doubling ids (entry.Read id query) = still_doubling None

      -- any packet that is sent here
      pub take_doubling : (ids : VidKind) (from : ChainEnd) (b : ChainBody) → ((q : _) (o hint : _) → b ≡ says.NotLeader q o hint → ⊥) → AreDoubling parts (with_taken s p t l (taken ids parts p t (machine_behind parts s p l.applied) l.lead b (part_from from)) (kept_sender from b)) given
      take_doubling ids from (says.Request number x) none = request_doubling ids x
      take_doubling ids from (says.Answer number answer) none = still_doubling None
      take_doubling ids from (says.NotLeader about q hint) none = absurd (none about q hint refl)
      take_doubling ids from (says.Remote u v list) none = proposing_doubling ids (entry.Remote (part_from from) u v list) (Some from) refl
      take_doubling ids from (says.Done u v) none = if_ready _ _ (asking_doubling v (λ row. ending_done v row.mode) (λ row. done_plain v row.mode))
      take_doubling ids from (says.Stale u v above) none = still_doubling None
      take_doubling ids from (says.Fence u v edges) none = proposing_doubling ids (entry.Fence (part_from from) u v edges) (Some from) refl
      take_doubling ids from (says.Fenced u v written) none = if_ready _ _ (asking_doubling v (λ row. ending_fenced v written row.mode) (λ row. fenced_plain v written row.mode))
      take_doubling ids from (says.Resume u after) none = if_ready _ _ (resuming_doubling after)
