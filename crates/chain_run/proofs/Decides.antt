-- An item that is decided, and one that a leader applies, as the world has it.
use Rattle.std.proofs.Common.{◌≡◌, ℕ, zero, suc, ◌+◌, List, [], ◌∷◌, ◌++◌, Option, None, Some, Bool, length, take, refl, ap, sym, subst, ◌∙◌, arith}
use Rattle.std.specs.Prelude.{◌==◌, if◌then◌else◌, slice_get}
use Rattle.std.specs.FinMap.{insert, remove}
use Rattle.std.specs.List.{filter_map, cons_option}
use Rattle.std.specs.Option.{option_to_list}
use Rattle.std.proofs.lemmas.List.{append_assoc}
use Rattle.std.proofs.lemmas.Option.{none-some}
use Rattle.part_keys.specs.declared.chain.PrimeRec.{PrimeRec}
use Rattle.part_keys.specs.declared.proposal.Proposal.{Proposal}
use Rattle.part_rules.specs.declared.applied.Applied.{Applied}
use Rattle.raft_log.specs.Decided.{count_term}
use Rattle.part_rules.specs.Part.{Part}
use Rattle.part_rules.specs.Folded.{item_applied, folded}
use Rattle.chain_leader.specs.declared.letter.Letter.{Letter}
use Rattle.chain_leader.specs.Applying.{IsBehind, chain_at}
use Rattle.chain_leader.specs.Leader.{leads, StandsBehind, BeganBehind}
use Rattle.chain_leader.specs.Leading.{Applies, on_item}
use Rattle.chain_world.specs.declared.packet.ChainEnd.{ChainEnd}
use Rattle.chain_world.specs.Ledger.{call_at, steps_of_item}
use Rattle.chain_world.specs.Events.{with_decided, applying, own_sender}
use Rattle.chain_world.specs.State.{posts_of, addressed}
use Rattle.chain_run.specs.declared.chains.Chains.{Chains}
use Rattle.chain_run.specs.declared.leaders.Seated.{Seated}
use Rattle.chain_run.specs.Shows.{list_in, posted, leader_of, seat, leader_in, client_in, world_of}
use Rattle.chain_run.proofs.Happening.{same_world, took}

-- what an item leaves at the next place, by the part that was folded
pub next_is : (parts index : ℕ) (items : List (ℕ × Proposal)) (x : Proposal) (machine behind : Part) (said : Applied) → index ≡ suc (length items) → machine ≡ folded parts items → item_applied parts index x machine ≡ (behind, said)
    → item_applied parts (suc (length items)) x (folded parts items) ≡ (behind, said)
next_is parts index items x machine behind said at is e = (λ i. item_applied parts (sym at i) x (sym is i)) ∙ e

pub appended : (c n : Chains) (parts p t : ℕ) (x : Proposal) (said : Applied) (behind : Part) → item_applied parts (suc (length (list_in c.decided p))) x (folded parts (list_in c.decided p)) ≡ (behind, said)
    → n.steps ≡ c.steps ++ steps_of_item (λ q v. call_at (list_in c.decided q) v) (folded parts (list_in c.decided p)) x said
    → list_in n.decided ≡ (λ (q : ℕ). if q == p then list_in c.decided p ++ (t, x) ∷ [] else list_in c.decided q)
    → n.founded ≡ c.founded → n.leaders ≡ c.leaders → n.posts ≡ c.posts → n.callers ≡ c.callers
    → world_of n ≡ with_decided parts (world_of c) p t x
appended c n parts p t x said behind is steps decided founded leaders posts callers =
    same_world n (with_decided parts (world_of c) p t x)
    (steps ∙ ap (λ (a : Applied). c.steps ++ steps_of_item (λ q v. call_at (list_in c.decided q) v) (folded parts (list_in c.decided p)) x a) (sym (ap (λ (r : Part × Applied). r.1) is)))
    decided (ap list_in founded) (ap leader_in leaders) (ap posted posts) (ap client_in callers)

-- what is known behind an item
pub known_behind : (parts index : ℕ) (item : Proposal) (machine behind : Part) (said : Applied) (begun : Option PrimeRec) (stands : Bool) → item_applied parts index item machine ≡ (behind, said) → BeganBehind behind said begun → StandsBehind behind (chain_at item) stands
    → IsBehind parts index item machine said begun stands
known_behind parts index item machine behind said begun stands is began ends = record {
  answer = sym (ap (λ (r : Part × Applied). r.1) is);
  began = subst (λ (m : Part). BeganBehind m said begun) (sym (ap (λ (r : Part × Applied). r.0) is)) began;
  ends = subst (λ (m : Part). StandsBehind m (chain_at item) stands) (sym (ap (λ (r : Part × Applied). r.0) is)) ends;
}

pub front_length : {A : Type 0} (xs : List A) (k : ℕ) (x : A) → slice_get xs k ≡ Some x → length (take k xs) ≡ k
front_length [] k x e = absurd (none-some x e)
front_length (y ∷ xs) zero x e = refl
front_length (y ∷ xs) (suc k) x e = ap suc (front_length xs k x e)

cons_on : {B : Type 0} (o : Option B) (xs ys : List B) → cons_option o xs ++ ys ≡ cons_option o (xs ++ ys)
cons_on None xs ys = refl
cons_on (Some x) xs ys = refl

sent_both : {A B : Type 0} (f : A → Option B) (xs ys : List A) → filter_map f (xs ++ ys) ≡ filter_map f xs ++ filter_map f ys
sent_both f [] ys = refl
sent_both f (x ∷ xs) ys = ap (cons_option (f x)) (sent_both f xs ys) ∙ sym (cons_on (f x) (filter_map f xs) (filter_map f ys))

all_sent : {A B : Type 0} (f : A → Option B) (seen : List B) (a b r : List A) → ((seen ++ filter_map f a) ++ filter_map f b) ++ filter_map f r ≡ seen ++ filter_map f ((a ++ b) ++ r)
all_sent f seen a b r =
    append_assoc (seen ++ filter_map f a) (filter_map f b) (filter_map f r) ∙ append_assoc seen (filter_map f a) (filter_map f b ++ filter_map f r)
    ∙ ap (λ l. seen ++ l) (sym (sent_both f (a ++ b) r ∙ ap (λ l. l ++ filter_map f r) (sent_both f a b) ∙ append_assoc (filter_map f a) (filter_map f b) (filter_map f r)))

module _ (c n : Chains) (parts p t : ℕ) (l made : Seated) (d : ℕ × Proposal) (sender : Option ChainEnd) (told back rule : Option Letter) (items : List (ℕ × Proposal)) (front : items ≡ take l.applied (list_in c.decided p)) (there : slice_get (list_in c.decided p) l.applied ≡ Some d) where
  abbrev here : List (ℕ × Proposal)
  here = take l.applied (list_in c.decided p)

  abbrev makes : List (ℕ × Proposal) → ℕ → Applies
  makes before index = on_item parts t (folded parts before) (leads l.lead) index d

  abbrev owns : List (ℕ × Proposal) → Option ChainEnd
  owns before = if d.0 == t then (leader_of l).senders (count_term before t) else None

  next : length items + 1 ≡ suc l.applied
  next = omega (arith, ap length front, front_length (list_in c.decided p) l.applied d there)

  pub applied_on : leader_of made ≡ record (leader_of l) { lead = (makes items (length items + 1)).leading; applied = length items + 1 }
      → option_to_list told ++ option_to_list back ≡ (makes items (length items + 1)).answers → option_to_list rule ≡ (makes items (length items + 1)).rules → sender ≡ owns items
      → n.steps ≡ c.steps → n.decided ≡ c.decided → n.founded ≡ c.founded → n.callers ≡ c.callers → n.leaders ≡ insert (remove c.leaders (seat p t)) (seat p t) made
      → posted n.posts ≡ ((posted c.posts ++ posts_of p t sender (option_to_list told)) ++ posts_of p t sender (option_to_list back)) ++ posts_of p t sender (option_to_list rule)
      → world_of n ≡ applying parts (world_of c) p t (leader_of l) d
  applied_on leading answers rules sent steps decided founded callers leaders posts =
      took c n p t made (record (leader_of l) { lead = (makes here (suc l.applied)).leading; applied = suc l.applied }) (posts_of p t (own_sender (world_of c) p t (leader_of l) d.0) ((makes here (suc l.applied)).answers ++ (makes here (suc l.applied)).rules))
      steps (ap list_in decided) (ap list_in founded) (ap client_in callers) leaders
      (leading ∙ (λ i. record (leader_of l) { lead = (makes (front i) (next i)).leading; applied = next i }))
      (posts ∙ all_sent (addressed p t sender) (posted c.posts) (option_to_list told) (option_to_list back) (option_to_list rule)
      ∙ (λ i. posted c.posts ++ posts_of p t (sent i) (answers i ++ rules i))
      ∙ (λ i. posted c.posts ++ posts_of p t (owns (front i)) ((makes (front i) (next i)).answers ++ (makes (front i) (next i)).rules)))
