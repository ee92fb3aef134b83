-- Parts of a Raft step that is made ahead, as the definition has them.
use Rattle.std.proofs.Common.{◌≡◌, ℕ, ◌<◌, ◌≤◌, Bool, true, false, List, [], ◌∷◌, length, Option, None, Some, refl, ap, sym, ◌∙◌, arith}
use Rattle.std.specs.Prelude.{◌==◌, ◌||◌, if◌then◌else◌}
use Rattle.std.specs.List.{list_any}
use Rattle.std.proofs.lemmas.Bool.{eq-eqb, eqb-true, ne_eqb, false≢true}
use Rattle.raft_core.specs.Core.{Core}
use Rattle.part_keys.specs.declared.chain.ChainState.{ChainState}
use Rattle.part_keys.specs.declared.chain.Policy.{Policy}
use Rattle.chain_leader.specs.Leading.{Leading}
use Rattle.chain_leader.specs.declared.letter.Letter.{Letter}
use Rattle.chain_leader.specs.declared.letter.Letter.TheVariants.{Tell, Cross, Back, Again}
use Rattle.replica_model.specs.Letters.{chain_of, is_about}
use Rattle.replica_model.specs.Replica.{no_senders}
use Rattle.replica_model.specs.Stepped.{Viewed, row_with, led_by, policy_in, policy_behind, senders_with}
use Rattle.replica_model.specs.declared.input.Input.{Input}
use Rattle.replica_model.specs.declared.packet.Place.{Place}
use Rattle.replica_state.specs.Asked.{ruled}
use Rattle.replica_state.specs.declared.asked.Rule.{Rule}
use Rattle.replica_peer.specs.Next.{senders_left, HasReadRoom, rows_in}
use Rattle.replica_peer.specs.Placed.{senders_behind}
use Rattle.replica_peer.specs.Stages.{told_by, row_begun, ready_left, policy_left, appended_at}
use Rattle.replica_peer.specs.declared.next.Reads.{Reads}
use Rattle.replica_peer.specs.declared.next.Reads.TheVariants as reads

-- equality of numbers looks the same from both sides
same_both : (v w : ℕ) → (v == w) ≡ (w == v)
same_both v w = by (v == w) refl
  where
    by : (b : Bool) → (v == w) ≡ b → (v == w) ≡ (w == v)
    by true e = let same : v ≡ w = eqb-true v w e in ap (λ x. x == w) same ∙ ap (λ x. w == x) (sym same)
    by false e = e ∙ sym (ne_eqb w v (λ same. false≢true (sym e ∙ eq-eqb v w (sym same))))

-- a chain is among those that letters are about where some letter is about it
pub told_about : (letters : List Letter) (v : ℕ) → list_any (λ w. v == w) (told_by letters) ≡ list_any (is_about v) letters
told_about [] v = refl
told_about (Tell id answer ∷ letters) v = told_about letters v
told_about (Cross part tries said ∷ letters) v = λ i. same_both v (chain_of said) i || told_about letters v i
told_about (Back said ∷ letters) v = told_about letters v
told_about (Again after ∷ letters) v = told_about letters v

pub row_is : (viewed : Option Viewed) (before behind : Core) → row_begun viewed before.round behind.round ≡ row_with viewed before behind
row_is None before behind = refl
row_is (Some viewed) before behind = refl

-- what is left of a leader
pub ready_is : (on : Bool) (rule : Rule) (lead : Leading) (policy : Policy) → ready_left on lead.ready ≡ (led_by on (ruled rule lead) policy).ready
ready_is true rule lead policy = refl
ready_is false rule lead policy = refl

pub policy_is : (on began : Bool) (rule : Rule) (lead : Leading) (told : Policy) (i : Input) → told ≡ policy_in i
    → policy_left on began lead.policy told ≡ (led_by on (ruled rule lead) (policy_behind lead.policy began i)).policy
policy_is true began rule lead told i e = refl
policy_is false true rule lead told i e = e
policy_is false false rule lead told i e = refl

abbrev senders_in : Bool → Option Place → ℕ → (ℕ → Option Place) → ℕ → Option Place
senders_in on sender last senders = if on then senders_with sender last senders else no_senders

-- the senders that are kept, as they are put in their places and as they are looked up
pub senders_put : (on : Bool) (sender : Option Place) (last : ℕ) (senders : ℕ → Option Place) → senders_left on (appended_at on last sender) senders ≡ senders_in on sender last senders
senders_put true None last senders = refl
senders_put true (Some place) last senders = refl
senders_put false sender last senders = refl

pub senders_seen : (on : Bool) (sender : Option Place) (last : ℕ) (senders : ℕ → Option Place) → senders_behind on (appended_at on last sender) senders ≡ senders_in on sender last senders
senders_seen true None last senders = refl
senders_seen true (Some place) last senders = refl
senders_seen false sender last senders = refl

-- there is room for a row in any case
pub has_room : (count room : ℕ) (reads : Reads) → count < room → HasReadRoom count room reads
has_room count room reads.Dropped less = tt
has_room count room reads.Stay less = tt
has_room count room (reads.OneMore read) less = less

-- no more rows are added than there are entries
pub rows_few : (begins : List (Option (ℕ × ChainState))) → rows_in begins ≤ length begins
rows_few [] = omega arith
rows_few (None ∷ begins) = let few = rows_few begins in omega arith
rows_few (Some row ∷ begins) = let few = rows_few begins in omega arith
