-- A leader takes a packet.
use Rattle.std.proofs.Common.{◌≡◌, inl, inr, ℕ, List, [], ◌∷◌, ◌++◌, map, length, Option, Some, None, Bool, true, false, refl, sym, subst, eqb-true}
use Rattle.std.specs.Prelude.{◌==◌, if◌then◌else◌}
use Rattle.std.specs.FinMap.{get, insert}
use Rattle.std.proofs.lemmas.Bool.{cond_both}
use Rattle.std.proofs.lemmas.Option.{same_Some, none-some}
use Rattle.part_keys.specs.declared.chain.ChainState.{ChainState}
use Rattle.part_keys.specs.declared.chain.Mode.{Mode}
use Rattle.part_keys.specs.declared.chain.Mode.TheVariants as mode
use Rattle.part_keys.specs.declared.proposal.Proposal.{Proposal}
use Rattle.part_keys.specs.declared.proposal.Proposal.TheVariants.{Made}
use Rattle.part_keys.specs.declared.entry.PartEntry.{PartEntry}
use Rattle.part_keys.specs.declared.entry.PartEntry.TheVariants as entry
use Rattle.part_keys.specs.Routing.{is_payload}
use Rattle.chain_leader.specs.Rules.{Table, asks_once, ending_done, ending_fenced, on_remote, on_fence}
use Rattle.chain_leader.specs.Leading.{Leading, Taken, still, proposing, asking}
use Rattle.part_keys.specs.declared.vid_kind.VidKind.{VidKind}
use Rattle.chain_world.specs.declared.packet.ChainEnd.{ChainEnd}
use Rattle.chain_world.specs.Places.{Among}
use Rattle.chain_world.specs.Course.{Courses}
use Rattle.chain_world.specs.State.{Leader, Chains, decided_of}
use Rattle.chain_world.specs.World.{sender_of, behind_taking, with_taken}
use Rattle.chain_world.specs.Invariant.Protocol.{IsClosing, IsFenced, IsEntry, IsProposed, IsKept, IsKeptSender, IsReadyIf, HasPut, HasFenced}
use Rattle.chain_world.proofs.Members.{at_front}
use Rattle.chain_world.proofs.Going.{proposed_on}
use Rattle.chain_world.proofs.Moving.{moved, moved_goes}
use Rattle.chain_world.proofs.Tables.{Alike, alike_itself, alike_set, asks_cases}
use Rattle.chain_world.proofs.Ready.{ready_alike}
use Rattle.chain_world.proofs.Quietly.{quietly_kept}

-- a sender that is kept is kept
pub sender_on : (made xs : List Proposal) (n : ℕ) (e : ChainEnd) → IsKeptSender made n e → IsKeptSender (made ++ xs) n e
sender_on made xs n e i = record { part = i.part; term = i.term; sender_is = i.sender_is; of = i.of; at = at_front (Made i.of) made xs n i.at; from = i.from }

pub senders_on : (made xs : List Proposal) (old : ℕ → Option ChainEnd) (new : Option ChainEnd)
    → ((n : ℕ) (e : ChainEnd) → old n ≡ Some e → IsKeptSender made n e)
    → ((e : ChainEnd) → new ≡ Some e → IsKeptSender (made ++ xs) (length made) e)
    → (n : ℕ) (e : ChainEnd) → (if n == length made then new else old n) ≡ Some e → IsKeptSender (made ++ xs) n e
senders_on made xs old new olds news n e = cond_both (n == length made) new (old n) (λ (o : Option ChainEnd). o ≡ Some e → IsKeptSender (made ++ xs) n e)
    (λ here at. subst (λ (m : ℕ). IsKeptSender (made ++ xs) m e) (sym (eqb-true n (length made) here)) (news e at))
    (λ other at. sender_on made xs n e (olds n e at))

module _ (parts : ℕ) (s : Chains) (k : Courses) (kept : IsKept parts s k) (p t : ℕ) (l : Leader) (is : s.leaders p t ≡ Some l) where
  -- it proposes, and its table stays alike
  pub proposes_kept : (lead : Leading) (ps : List PartEntry) (sender : Option ChainEnd) → Alike l.lead.table lead.table → lead.ready ≡ l.lead.ready
      → ((x : Proposal) → Among x (map Made ps) → IsProposed parts s k p t x)
      → ((e : ChainEnd) → sender_of ps sender ≡ Some e → IsKeptSender (l.made ++ map Made ps) (length l.made) e)
      → IsKept parts (with_taken s p t l (record { leading = lead; proposals = ps; letters = [] }) sender) k
  proposes_kept lead ps sender alike ready meant its_sender =
      let led = kept.leaders p t l is in
      let behind : Leader = behind_taking l (record { leading = lead; proposals = ps; letters = [] }) sender in
      quietly_kept parts s k kept p t l is behind (map Made ps) refl [] (λ post none. absurd none) led.within
      (senders_on l.made (map Made ps) l.senders (sender_of ps sender) led.senders its_sender)
      (subst (IsReadyIf parts (decided_of s p) (HasPut s p t) (HasFenced s p t) t l.applied lead.table) (sym ready)
      (ready_alike parts (decided_of s p) (HasPut s p t) (HasFenced s p t) t l.applied l.lead.table lead.table alike l.lead.ready led.rules))
      (λ x among. proposed_on parts s k (moved parts s k kept p t l is behind (map Made ps) refl []) k (moved_goes parts s k kept p t l is behind (map Made ps) refl []) p t x (meant x among))
      (λ post none. absurd none)

  -- nothing is proposed
  pub still_kept : (lead : Leading) (sender : Option ChainEnd) → Alike l.lead.table lead.table → lead.ready ≡ l.lead.ready → IsKept parts (with_taken s p t l (still lead) sender) k
  still_kept lead sender alike ready = proposes_kept lead [] sender alike ready (λ x none. absurd none) (λ e at. absurd (none-some e at))

  -- an entry that belongs to the part is proposed
  pub proposing_kept : (ids : VidKind) (x : PartEntry) (sender : Option ChainEnd) → IsEntry parts s k p t x
      → ((e : ChainEnd) → sender ≡ Some e → IsKeptSender (l.made ++ Made x ∷ []) (length l.made) e)
      → IsKept parts (with_taken s p t l (proposing ids parts p l.lead x) sender) k
  proposing_kept ids x sender meant its_sender = cond_both (is_payload ids parts p x) _ _ (λ (tk : Taken). IsKept parts (with_taken s p t l tk sender) k)
      (λ _. proposes_kept l.lead (x ∷ []) sender (alike_itself l.lead.table) refl (λ y among. elim among [ inl same ↦ subst (IsProposed parts s k p t) (sym same) meant | inr none ↦ absurd none ]) its_sender)
      (λ _. still_kept l.lead sender (alike_itself l.lead.table) refl)

  -- an entry that ends a chain is asked for
  asking_kept : (v : ℕ) (ending : ChainState → Option PartEntry) (sender : Option ChainEnd) → ((e : ChainEnd) → sender ≡ Some e → ⊥)
      → ((row : ChainState) (x : PartEntry) → ending row ≡ Some x → IsEntry parts s k p t x)
      → IsKept parts (with_taken s p t l (asking l.lead (asks_once l.lead.table v ending (get l.lead.table v))) sender) k
  asking_kept v ending sender none meant = asks_cases (λ (made : Table × Option PartEntry). IsKept parts (with_taken s p t l (asking l.lead made) sender) k) l.lead.table v ending
      (still_kept l.lead sender (alike_itself l.lead.table) refl)
      (λ row x there ends. proposes_kept (record l.lead { table = insert l.lead.table v (record row { asked = true }) }) (x ∷ []) sender
      (alike_set l.lead.table v row (record row { asked = true }) there (record { id = refl; list = refl; remote = refl; fence = refl })) refl
      (λ y among. elim among [ inl same ↦ subst (IsProposed parts s k p t) (sym same) (meant row x ends) | inr none_else ↦ absurd none_else ])
      (λ e at. absurd (none e at)))

  -- what a Done, and what a Fenced asks for
  ends_done : (v : ℕ) (m : Mode) (x : PartEntry) → IsClosing k p v → ending_done v m ≡ Some x → IsEntry parts s k p t x
  ends_done v mode.Put x c e = subst (IsEntry parts s k p t) (same_Some (entry.Local v) x e) c
  ends_done v mode.Doubled x c e = subst (IsEntry parts s k p t) (same_Some (entry.Close v) x e) c
  ends_done v mode.Fence x c e = absurd (none-some x e)

  ends_fenced : (v : ℕ) (b : Bool) (m : Mode) (x : PartEntry) → IsFenced parts s k p t v b → ending_fenced v b m ≡ Some x → IsEntry parts s k p t x
  ends_fenced v true mode.Fence x c e = subst (IsEntry parts s k p t) (same_Some (entry.Local v) x e) c
  ends_fenced v false mode.Fence x c e = subst (IsEntry parts s k p t) (same_Some (entry.Abort v) x e) c
  ends_fenced v true mode.Put x c e = absurd (none-some x e)
  ends_fenced v true mode.Doubled x c e = absurd (none-some x e)
  ends_fenced v false mode.Put x c e = absurd (none-some x e)
  ends_fenced v false mode.Doubled x c e = absurd (none-some x e)

  pub done_kept : (v : ℕ) → IsClosing k p v → IsKept parts (with_taken s p t l (asking l.lead (on_remote l.lead.table v)) None) k
  done_kept v c = asking_kept v (λ row. ending_done v row.mode) None (λ e at. none-some e at) (λ row x e. ends_done v row.mode x c e)

  pub fenced_kept : (v : ℕ) (b : Bool) → IsFenced parts s k p t v b → IsKept parts (with_taken s p t l (asking l.lead (on_fence l.lead.table v b)) None) k
  fenced_kept v b c = asking_kept v (λ row. ending_fenced v b row.mode) None (λ e at. none-some e at) (λ row x e. ends_fenced v b row.mode x c e)
