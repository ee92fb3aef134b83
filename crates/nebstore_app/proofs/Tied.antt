-- How the world and the graph machine hang together at each moment of a run.
use Rattle.std.proofs.Common.{◌≡◌, ℕ, ℤ, ◌+◌, ◌-◌, ◌≤◌, ◌<◌, length, List, [], ◌∷◌, ◌++◌, take, replicate, Option, Some, None, Bool, true, false, refl, ap, sym, subst, ◌∙◌, arith, length-append, suc, zero}
use Rattle.std.specs.Prelude.{slice_index}
use Rattle.std.specs.FinMap.{get}
use Rattle.std.specs.Ordering.{eq_by_cmp}
use Rattle.first_graph.specs.Keys.{edge_cmp, in_key}
use Rattle.first_graph.specs.Contents.{Contents, nothing, changed, after_all, contents_after}
use Rattle.first_graph.specs.Views.{view_of}
use Rattle.first_graph.specs.Machine.{Machine, contents_at}
use Rattle.first_graph.specs.Run.{Run as GraphRun}
use Rattle.first_graph.specs.declared.edge_id.EdgeId.{EdgeId}
use Rattle.first_graph.specs.declared.in_key.InKey.{InKey}
use Rattle.first_graph.specs.declared.call_id.CallId.{CallId}
use Rattle.first_graph.specs.declared.change.Change.{Change}
use Rattle.first_graph.specs.declared.call.Call.{Call}
use Rattle.first_graph.specs.declared.call.CallState.{CallState}
use Rattle.first_graph.specs.declared.call.CallState.TheVariants.{Open, Begun, Done}
use Rattle.first_graph.specs.declared.half.Half.{Half}
use Rattle.first_graph.specs.declared.op.Op.{Op}
use Rattle.first_graph.specs.declared.op.Op.TheVariants.{Read as ReadOp}
use Rattle.first_graph.specs.declared.query.Query.{Query}
use Rattle.first_graph.specs.declared.found.Found.{Found}
use Rattle.first_graph.specs.declared.answer.Answer.{Answer}
use Rattle.first_graph.specs.declared.answer.Answer.TheVariants.{Fine, Shown}
use Rattle.first_graph.specs.declared.graph_step.GStep.{GStep}
use Rattle.first_part.specs.InHalf.{number_of, row_in}
use Rattle.first_part.specs.Part.{Part}
use Rattle.first_part.specs.declared.clients.Kept.{Kept}
use Rattle.first_part.specs.declared.prime.PrimeRec.{PrimeRec}
use Rattle.nebstore_app.specs.declared.due.Due.{Due}
use Rattle.nebstore_app.specs.declared.event.Event.{Event}
use Rattle.nebstore_app.specs.declared.packet.Packet.{Packet}
use Rattle.nebstore_app.specs.declared.packet.Place.TheVariants.{Part as ToPart}
use Rattle.nebstore_app.specs.declared.packet.Body.TheVariants.{Remote, Done as DoneBody}
use Rattle.nebstore_app.specs.Packets.{part_of, the_client, the_term, request_of, answer_packet}
use Rattle.nebstore_app.specs.World.{World, replica_of, last_call, after}
use Rattle.nebstore_app.specs.Steps.{Tally, steps_of_event, tallied, sent_so_far}
use Rattle.nebstore_app.proofs.Goes.{chain_of}

-- the machine of the part that holds a vertex
abbrev pub home : World → ℤ → Part
home w v = (replica_of w (part_of v)).machine

-- the number of a client's last call, 0 where it made none
abbrev pub kept_number : Option Kept → ℕ
kept_number None = 0
kept_number (Some kept) = kept.number

-- what holds at each moment: each half is at home in the part of its vertex, no in-half has a number past its
-- source's part, no call of the client is past its last one, and the tally counts
pub record Tied (w : World) (t : Tally) (g : Machine) : Type 0 where
  pub out : (e : EdgeId) → get g.contents.out e ≡ get (home w e.src).out e
  pub inn : (k : InKey) → get g.contents.inn k ≡ row_in (get (home w k.dst).inn k)
  pub numbers : (k : InKey) → number_of (get (home w k.dst).inn k) ≤ length (replica_of w (part_of k.src)).decided
  pub kept : (i : ℕ) → kept_number (get (replica_of w i).machine.kept the_client) ≤ w.last
  pub fresh : (n : ℕ) → w.last < n → get g.calls (record { client = the_client; number = n }) ≡ None
  pub counted : length t.moments ≡ sent_so_far w
  pub given : t.given ≡ length g.past
  pub now : contents_after g.past ≡ g.contents

-- no chain is under way
pub record NoChain (w : World) (g : Machine) : Type 0 where
  pub pend : (e : EdgeId) → get g.pend e ≡ None
  pub primes : (e : EdgeId) → get (home w e.src).primes e ≡ None

-- the prime of a chain
abbrev pub prime_of : EdgeId → ℕ → CallId → Half → PrimeRec
prime_of e v id half = record { edge = e; v = v; id = id; fresh_half = half; double = false }

-- one chain is under way: that of the client's last call, on this edge
pub record OneChain (w : World) (g : Machine) (e : EdgeId) (v : ℕ) (half : Half) (in_done : Bool) : Type 0 where
  pub pend : get g.pend e ≡ Some (chain_of (last_call w) half in_done false)
  pub prime : get (home w e.src).primes e ≡ Some (prime_of e v (last_call w) half)
  pub no_pend : (x : EdgeId) → eq_by_cmp edge_cmp x e ≡ false → get g.pend x ≡ None
  pub no_prime : (x : EdgeId) → eq_by_cmp edge_cmp x e ≡ false → get (home w x.src).primes x ≡ None

-- a call is known, in this state, and wasn't replied
pub record CallIs (g : Machine) (id : CallId) (op : Op) (state : CallState) : Type 0 where
  pub call : Call
  pub known : get g.calls id ≡ Some call
  pub does : call.op ≡ op
  pub is : call.state ≡ state
  pub unsaid : call.said ≡ false
  pub since : call.moment ≤ length g.past

-- the client is at rest
pub record AtRest (w : World) (g : Machine) : Type 0 where
  pub resting : w.calling ≡ false
  pub nothing_due : w.due ≡ None
  pub nobody : w.waiting ≡ []
  pub no_chain : NoChain w g

-- a packet is under way for the client's open call, and only this one
pub record UnderWay (w : World) (p : Packet) : Type 0 where
  pub calling : w.calling ≡ true
  pub nothing_due : w.due ≡ None
  pub alone : w.waiting ≡ p ∷ []

-- the request is under way
pub record Asked (w : World) (g : Machine) : Type 0 where
  pub packet : Packet
  pub op : Op
  pub way : UnderWay w packet
  pub asks : request_of (last_call w) op ≡ Some packet
  pub call : CallIs g (last_call w) op Open
  pub below : (i : ℕ) → kept_number (get (replica_of w i).machine.kept the_client) < w.last
  pub no_chain : NoChain w g

abbrev pub remote_packet : EdgeId → ℕ → Half → Packet
remote_packet e v half = record { from = ToPart (part_of e.src); to = ToPart (part_of e.dst); body = Remote the_term e v half }

-- the new half is on its way to the edge's destination
pub record Crossing (w : World) (g : Machine) : Type 0 where
  pub edge : EdgeId
  pub v : ℕ
  pub half : Half
  pub op : Op
  pub way : UnderWay w (remote_packet edge v half)
  pub chain : OneChain w g edge v half false
  pub call : CallIs g (last_call w) op Begun
  pub new : number_of (get (home w edge.dst).inn (in_key edge)) < v
  pub placed : v ≤ length (replica_of w (part_of edge.src)).decided

abbrev pub done_packet : EdgeId → ℕ → Packet
done_packet e v = record { from = ToPart (part_of e.dst); to = ToPart (part_of e.src); body = DoneBody the_term e v }

-- the in-half is written, and the source's part doesn't know it yet
pub record Returning (w : World) (g : Machine) : Type 0 where
  pub edge : EdgeId
  pub v : ℕ
  pub half : Half
  pub op : Op
  pub way : UnderWay w (done_packet edge v)
  pub chain : OneChain w g edge v half true
  pub call : CallIs g (last_call w) op Begun

-- the answer is right: the call is done, or it is a read of the graph as it is, and its packet has this moment
pub data Right (t : Tally) (g : Machine) (id : CallId) (packet : ℕ) : Answer → Type 0 where
  settled : (op : Op) → CallIs g id op (Done Fine) → Right t g id packet Fine
  read : (q : Query) (view : List Found) → CallIs g id (ReadOp q) Open → view ≡ view_of q g.contents → slice_index t.moments packet ≡ length g.past → Right t g id packet (Shown view)

-- the answer is on its way to the client
pub record Answered (w : World) (t : Tally) (g : Machine) : Type 0 where
  pub part : ℕ
  pub answer : Answer
  pub way : UnderWay w (answer_packet part (last_call w) answer)
  pub right : Right t g (last_call w) (length w.passed) answer
  pub no_chain : NoChain w g

-- the client has the answer and is to reply
pub record Over (w : World) (t : Tally) (g : Machine) : Type 0 where
  pub due : Due
  pub is_due : w.due ≡ Some due
  pub nobody : w.waiting ≡ []
  pub calling : w.calling ≡ true
  pub right : Right t g (last_call w) due.packet due.answer
  pub no_chain : NoChain w g

-- where the client's call is
pub data Phase (w : World) (t : Tally) (g : Machine) : Type 0 where
  at_rest : AtRest w g → Phase w t g
  asked : Asked w g → Phase w t g
  crossing : Crossing w g → Phase w t g
  returning : Returning w g → Phase w t g
  answered : Answered w t g → Phase w t g
  over : Over w t g → Phase w t g

-- the graph machine goes on with the steps of an event, and both hang together again
pub record Next (w : World) (t : Tally) (g : Machine) (e : Event) : Type 0 where
  pub h : Machine
  pub goes : GraphRun g (steps_of_event w t e) h
  pub tied : Tied (after w e) (tallied w t e) h
  pub phase : Phase (after w e) (tallied w t e) h

-- the tally behind an event that leads to this world by these steps
abbrev pub tally_at : World → Tally → World → List GStep → Tally
tally_at w t v steps = record { moments = t.moments ++ replicate (sent_so_far v - sent_so_far w) t.given; given = t.given + length steps }

pub next : (w : World) (t : Tally) (g : Machine) (e : Event) (v : World) (steps : List GStep) (h : Machine) → after w e ≡ v → steps_of_event w t e ≡ steps
    → GraphRun g steps h → Tied v (tally_at w t v steps) h → Phase v (tally_at w t v steps) h → Next w t g e
next w t g e v steps h leads gives goes tied phase =
    record {
      h = h;
      goes = subst (λ s. GraphRun g s h) (sym gives) goes;
      tied = subst (λ u. Tied u (tally_at w t u (steps_of_event w t e)) h) (sym leads) (subst (λ s. Tied v (tally_at w t v s) h) (sym gives) tied);
      phase = subst (λ u. Phase u (tally_at w t u (steps_of_event w t e)) h) (sym leads) (subst (λ s. Phase v (tally_at w t v s) h) (sym gives) phase);
    }

length-replicate : {A : Type 0} (n : ℕ) (x : A) → length (replicate n x) ≡ n
length-replicate zero x = refl
length-replicate (suc n) x = ap suc (length-replicate n x)

-- each packet has its moment
pub moments_counted : (ms : List ℕ) (a b given : ℕ) → length ms ≡ a → a ≤ b → length (ms ++ replicate (b - a) given) ≡ b
moments_counted ms a b given is le =
    let both = length-append ms (replicate (b - a) given) in
    let new = length-replicate (b - a) given in
    omega (arith, both, new)

after_all-append : (c : Contents) (xs ys : List Change) → after_all c (xs ++ ys) ≡ after_all (after_all c xs) ys
after_all-append c [] ys = refl
after_all-append c (x ∷ xs) ys = after_all-append (changed c x) xs ys

-- what a step changes is what is changed of the past
pub now_taken : (g : Machine) (x : Change) → contents_after g.past ≡ g.contents → contents_after (g.past ++ x ∷ []) ≡ changed g.contents x
now_taken g x now = after_all-append nothing g.past (x ∷ []) ∙ ap (λ c. changed c x) now

pub past_longer : (xs : List Change) (x : Change) (n : ℕ) → n ≡ length xs → n + 1 ≡ length (xs ++ x ∷ [])
past_longer xs x n is = let both = length-append xs (x ∷ []) in omega (arith, both)

take_all : (xs : List Change) → take (length xs) xs ≡ xs
take_all [] = refl
take_all (x ∷ xs) = ap (λ ys. x ∷ ys) (take_all xs)

-- the graph now is the graph at this moment
pub contents_now : (g : Machine) → contents_after g.past ≡ g.contents → contents_at g (length g.past) ≡ g.contents
contents_now g now = ap contents_after (take_all g.past) ∙ now
