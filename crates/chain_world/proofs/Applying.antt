-- A leader applies the next entry.
use Rattle.std.proofs.Common.{◌≡◌, inl, inr, ℕ, suc, ◌<◌, List, [], ◌∷◌, ◌++◌, length, Option, Some, None, Bool, true, false, refl, ap, sym, subst, ◌∙◌, arith, eqb-true, append-nil}
use Rattle.std.specs.Prelude.{◌==◌, nat_le, slice_get}
use Rattle.std.specs.FinMap.{get}
use Rattle.std.proofs.lemmas.Bool.{cond_both}
use Rattle.std.proofs.lemmas.Option.{slice_get_within}
use Rattle.part_keys.specs.declared.chain.PrimeRec.{PrimeRec}
use Rattle.part_keys.specs.declared.chain.Mode.TheVariants.{Put}
use Rattle.part_keys.specs.declared.proposal.Proposal.{Proposal}
use Rattle.part_keys.specs.declared.proposal.Proposal.TheVariants.{Start, Members, Made, Blank}
use Rattle.part_keys.specs.declared.entry.PartEntry.{PartEntry}
use Rattle.part_rules.specs.declared.applied.Applied.{Applied}
use Rattle.part_rules.specs.declared.applied.Applied.TheVariants as told
use Rattle.part_rules.specs.Part.{Part}
use Rattle.part_rules.specs.Machine as machines
use Rattle.part_rules.specs.Folded.{item_applied}
use Rattle.chain_leader.specs.declared.body.ChainBody.TheVariants as says
use Rattle.chain_leader.specs.declared.letter.Letter.{Letter}
use Rattle.chain_leader.specs.declared.letter.Letter.TheVariants.{Cross, Again}
use Rattle.chain_leader.specs.Rules.{Table, added}
use Rattle.chain_leader.specs.Leading.{answers_of, chain_in, forgetting, begins, on_entry, started, Ruled, quiet}
use Rattle.chain_world.specs.Places.{Among, At}
use Rattle.chain_world.specs.Course.{Courses}
use Rattle.chain_world.specs.Invariant.Discipline.{WasAnswered}
use Rattle.chain_world.specs.Invariant.Sound.{IsSound}
use Rattle.chain_world.specs.State.{Post, Leader, Chains, decided_of, machine_behind, posts_of}
use Rattle.chain_world.specs.World.{own_sender, with_applied, applying}
use Rattle.chain_world.proofs.Occurring.{applied_next, applies}
use Rattle.chain_world.specs.Invariant.Protocol.{IsMeant, IsKept, IsLed, IsReadyIf, IsReady, StandsAt, HasPut, HasFenced}
use Rattle.chain_world.proofs.Going.{meant_on}
use Rattle.chain_world.proofs.Staying.{is_chains, AreQuiet}
use Rattle.chain_world.proofs.Moving.{moved, moved_goes}
use Rattle.chain_world.proofs.Folding.{entry_begins, entry_remains}
use Rattle.chain_world.proofs.Fronts.{behind_more, keeps_more, numbered}
use Rattle.chain_world.proofs.Tables.{primed_case}
use Rattle.chain_world.proofs.Ready.{IsReadyBut, lacks_none, advanced, becomes_ready}
use Rattle.chain_world.proofs.Sending.{put_kept}
use Rattle.chain_world.proofs.Quietly.{quietly_kept}
use Rattle.chain_world.proofs.Answers.{answers_meant, answers_quiet}
use Rattle.chain_world.proofs.Forgetting.{forgets_nothing, forgot_back, forgot_stays, ruled_cases, unanswered}

module _ (parts : ℕ) (s : Chains) (k : Courses) (kept : IsKept parts s k) (sound : IsSound parts s.ledger k) (p t : ℕ) (l : Leader) (is : s.leaders p t ≡ Some l) (u : ℕ) where
  abbrev puts : ℕ → Type 0
  puts = HasPut s p t

  abbrev fences : ℕ → Type 0
  fences = HasFenced s p t

  module _ (x : PartEntry) (at : At (decided_of s p) l.applied (u, Made x)) where
    abbrev before : Part
    before = machine_behind parts s p l.applied

    abbrev result : Part × Applied
    result = machines.applied parts (suc l.applied) x before

    abbrev table : Table
    table = forgetting l.lead.table result.0 (chain_in x)

    inside : l.applied < length (decided_of s p)
    inside = slice_get_within (decided_of s p) l.applied (u, Made x) at

    -- the part behind the entry
    stands_behind : (v : ℕ) (rec : PrimeRec) → get result.0.chains v ≡ Some rec → StandsAt parts (decided_of s p) (suc l.applied) v rec
    stands_behind v rec e = ap (λ (m : Part). get m.chains v) (behind_more parts (decided_of s p) l.applied (u, Made x) at) ∙ e

    behind_stands : (v : ℕ) (rec : PrimeRec) → StandsAt parts (decided_of s p) (suc l.applied) v rec → get result.0.chains v ≡ Some rec
    behind_stands v rec e = ap (λ (m : Part). get m.chains v) (sym (behind_more parts (decided_of s p) l.applied (u, Made x) at)) ∙ e

    was : WasAnswered parts (decided_of s p) l.applied u x result.1
    was = record { there = at; is = refl }

    led : IsLed parts s p t l
    led = kept.leaders p t l is

    -- a ready leader's table behind it
    advances : IsReady parts (decided_of s p) puts fences t l.applied l.lead.table → IsReadyBut parts (decided_of s p) puts fences t (suc l.applied) (suc l.applied) table
    advances r = advanced parts (decided_of s p) puts fences t l.applied (u, Made x) at inside l.lead.table table
        (λ v row has. (let b = forgot_back l.lead.table result.0 (chain_in x) v row has in let i = r.rows v row b.0 in (
          b.0,
          elim (entry_remains parts (suc l.applied) before x v i.rec i.standing) [
            | inl stays ↦ (stays.0, stands_behind v stays.0 stays.1)
            | inr ends ↦ (let f = b.1 ends in (f.0, stands_behind v f.0 f.1))
          ],
        )))
        (λ v row rec has stands. forgot_stays l.lead.table result.0 (chain_in x) v row rec has (behind_stands v rec stands))
        r

    if_unbegun : (b : Bool) → (b ≡ true → (v : ℕ) → result.1 ≡ told.Begun v → ⊥) → IsReadyIf parts (decided_of s p) puts fences t l.applied l.lead.table b → IsReadyIf parts (decided_of s p) puts fences t (suc l.applied) table b
    if_unbegun true unbegun r = lacks_none parts (decided_of s p) puts fences t (suc l.applied) (suc l.applied) table
        (λ rec stands. elim (keeps_more parts (decided_of s p) l.applied (u, Made x) at (suc l.applied) rec stands) [
          | inl new ↦ unbegun refl (suc l.applied) new.2
          | inr old ↦ (let m = numbered parts (decided_of s p) l.applied led.within (suc l.applied) old.old old.was in let le = m.0 in absurd (omega arith))
        ])
        (advances r)
    if_unbegun false unbegun r = record { empty = forgets_nothing l.lead.table result.0 (chain_in x) r.empty; unput = r.unput; unfenced = r.unfenced }

    abbrev ends_with : Ruled → Type 0
    ends_with ru = IsKept parts (with_applied s p t l (record { leading = record l.lead { table = ru.table }; answers = answers_of (u == t) x result.1; rules = ru.letters }) (own_sender s p t l u)) k

    -- nothing begins at it
    plainly : (l.lead.ready ≡ true → (v : ℕ) → result.1 ≡ told.Begun v → ⊥) → ends_with (quiet table)
    plainly unbegun =
        let behind : Leader = record l { lead = record l.lead { table = table }; applied = suc l.applied } in
        let nil : behind.made ≡ l.made ++ [] = sym (append-nil l.made) in
        subst (λ (ls : List Letter). IsKept parts (moved parts s k kept p t l is behind [] nil (posts_of p t (own_sender s p t l u) ls)) k) (sym (append-nil (answers_of (u == t) x result.1)))
        (quietly_kept parts s k kept p t l is behind [] nil (posts_of p t (own_sender s p t l u) (answers_of (u == t) x result.1)) (answers_quiet p t (own_sender s p t l u) (u == t) x result.1)
        inside led.senders (if_unbegun l.lead.ready unbegun led.rules) (λ y none. absurd none)
        (λ post among. meant_on parts s k _ k (moved_goes parts s k kept p t l is behind [] nil (posts_of p t (own_sender s p t l u) (answers_of (u == t) x result.1))) post
        (answers_meant parts s k kept sound p t l is u x at result.1 was post among)))

    -- a chain begins at it
    begun : l.lead.ready ≡ true → (v : ℕ) → result.1 ≡ told.Begun v → ends_with (begins t table (get result.0.chains v))
    begun ready v e =
        let b = entry_begins parts (suc l.applied) before v x e in
        let rec : PrimeRec = b.1 in
        let number : rec.v ≡ suc l.applied = b.3 in
        let first : IsReady parts (decided_of s p) puts fences t l.applied l.lead.table = subst (IsReadyIf parts (decided_of s p) puts fences t l.applied l.lead.table) ready led.rules in
        let rb = advances first in
        let r : IsReadyBut parts (decided_of s p) puts fences t (suc l.applied) rec.v table = subst (λ (n : ℕ). IsReadyBut parts (decided_of s p) puts fences t (suc l.applied) n table) (sym number) rb in
        subst (λ (o : Option PrimeRec). ends_with (begins t table o)) (sym (ap (get result.0.chains) b.0 ∙ b.2))
        (primed_case ends_with t table rec (λ w route set.
        subst (λ (ls : List Letter). IsKept parts (with_applied s p t l (record { leading = record l.lead { table = w }; answers = ls; rules = Cross rec.remote route (says.Remote t rec.v rec.list) ∷ [] }) (own_sender s p t l u)) k) (sym (unanswered (u == t) x result.1 v e))
        (put_kept parts s k kept p t l is (record l { lead = record l.lead { table = w }; applied = suc l.applied }) (sym (append-nil l.made)) rec.v table (added rec Put) rec r inside (omega arith)
        (subst (λ (n : ℕ). StandsAt parts (decided_of s p) (suc l.applied) n rec) (sym number) (stands_behind (suc l.applied) rec b.2)) refl refl set ready led.senders refl
        (λ h. absurd (let f = first.fenced rec.v h in let le = f.0 in let lt = first.applied in omega arith)))))

    pub entry_kept : IsKept parts (with_applied s p t l (on_entry t l.lead (u == t) x result) (own_sender s p t l u)) k
    entry_kept = ruled_cases ends_with t table result.0 l.lead.ready result.1 begun plainly

  -- the own no-op, and what is no entry
  no_entry_kept : (x : Proposal) → ((y : PartEntry) → x ≡ Made y → ⊥) → At (decided_of s p) l.applied (u, x) → (b : Bool) (more : List Post) → AreQuiet more
      → ((z : Chains) (post : Post) → Among post more → IsMeant parts z k post)
      → ((IsReadyIf parts (decided_of s p) puts fences t l.applied l.lead.table l.lead.ready) → IsReadyIf parts (decided_of s p) puts fences t (suc l.applied) l.lead.table b)
      → IsKept parts (moved parts s k kept p t l is (record l { lead = record l.lead { ready = b }; applied = suc l.applied }) [] (sym (append-nil l.made)) more) k
  no_entry_kept x none at b more quiet means rules =
      let led = kept.leaders p t l is in
      quietly_kept parts s k kept p t l is (record l { lead = record l.lead { ready = b }; applied = suc l.applied }) [] (sym (append-nil l.made)) more quiet
      (slice_get_within (decided_of s p) l.applied (u, x) at) led.senders (rules led.rules) (λ y no_one. absurd no_one) (means _)

  -- a table behind an item that is no entry: nothing changed
  passes : (x : Proposal) → ((y : PartEntry) → x ≡ Made y → ⊥) → At (decided_of s p) l.applied (u, x) → (b : Bool)
      → IsReadyIf parts (decided_of s p) puts fences t l.applied l.lead.table b → IsReadyIf parts (decided_of s p) puts fences t (suc l.applied) l.lead.table b
  passes x none at true r =
      let led = kept.leaders p t l is in
      let inside = slice_get_within (decided_of s p) l.applied (u, x) at in
      let same = behind_more parts (decided_of s p) l.applied (u, x) at ∙ unchanged x none in
      lacks_none parts (decided_of s p) puts fences t (suc l.applied) (suc l.applied) l.lead.table
      (λ rec stands. (let m = numbered parts (decided_of s p) l.applied led.within (suc l.applied) rec (ap (λ (q : Part). get q.chains (suc l.applied)) (sym same) ∙ stands) in let le = m.0 in absurd (omega arith)))
      (advanced parts (decided_of s p) puts fences t l.applied (u, x) at inside l.lead.table l.lead.table
      (λ v row has. (let i = r.rows v row has in (has, (i.rec, ap (λ (q : Part). get q.chains v) same ∙ i.standing)))) (λ v row rec has stands. has) r)
    where
      unchanged : (y : Proposal) → ((z : PartEntry) → y ≡ Made z → ⊥) → (item_applied parts (suc l.applied) y (machine_behind parts s p l.applied)).0 ≡ machine_behind parts s p l.applied
      unchanged Start none = refl
      unchanged (Members config) none = refl
      unchanged (Made z) none = absurd (none z refl)
      unchanged Blank none = refl
  passes x none at false r = record { empty = r.empty; unput = r.unput; unfenced = r.unfenced }

  no_posts : AreQuiet []
  no_posts post none = absurd none

  plain_kept : (x : Proposal) → ((y : PartEntry) → x ≡ Made y → ⊥) → At (decided_of s p) l.applied (u, x)
      → IsKept parts (with_applied s p t l (record { leading = l.lead; answers = []; rules = [] }) (own_sender s p t l u)) k
  plain_kept x none at = no_entry_kept x none at l.lead.ready [] no_posts (λ z post no_one. absurd no_one) (passes x none at l.lead.ready)

  start_kept : At (decided_of s p) l.applied (u, Start) → IsKept parts (with_applied s p t l (started l.lead (u == t)) (own_sender s p t l u)) k
  start_kept at = by_own (u == t) refl
    where
      is_start : (y : PartEntry) → Start ≡ Made y → ⊥
      is_start y e = cc

      by_own : (b : Bool) → (u == t) ≡ b → IsKept parts (with_applied s p t l (started l.lead b) (own_sender s p t l u)) k
      by_own true own = no_entry_kept Start is_start at true (posts_of p t (own_sender s p t l u) (Again None ∷ []))
          (λ post among. elim among [ inl same ↦ ap (λ (y : Post). is_chains y.packet.body) same | inr none ↦ absurd none ])
          (λ z post among. elim among [ inl same ↦ subst (IsMeant parts z k) (sym same) tt | inr none ↦ absurd none ])
          (by_ready l.lead.ready)
        where
          inside : l.applied < length (decided_of s p)
          inside = slice_get_within (decided_of s p) l.applied (u, Start) at

          by_ready : (b : Bool) → IsReadyIf parts (decided_of s p) puts fences t l.applied l.lead.table b → IsReadyIf parts (decided_of s p) puts fences t (suc l.applied) l.lead.table true
          by_ready true r = passes Start is_start at true r
          by_ready false r = becomes_ready parts (decided_of s p) puts fences t l.applied (subst (λ (n : ℕ). At (decided_of s p) l.applied (n, Start)) (eqb-true u t own) at) inside l.lead.table r
      by_own false other = plain_kept Start is_start at

  -- any item
  pub item_kept : (x : Proposal) → At (decided_of s p) l.applied (u, x) → IsKept parts (applying parts s p t l (u, x)) k
  item_kept Start at = start_kept at
  item_kept (Members config) at = plain_kept (Members config) (λ y e. (let f : Members config ≡ Made y = e in cc)) at
  item_kept (Made x) at = entry_kept x at
  item_kept Blank at = plain_kept Blank (λ y e. (let f : Blank ≡ Made y = e in cc)) at

-- Apply keeps it.
pub apply_kept : (parts : ℕ) (s : Chains) (k : Courses) → IsKept parts s k → IsSound parts s.ledger k → (p t : ℕ) → IsKept parts (applies parts s p t (s.leaders p t)) k
apply_kept parts s k kept sound p t = by_leader (s.leaders p t) refl
  where
    by_leader : (o : Option Leader) → s.leaders p t ≡ o → IsKept parts (applies parts s p t o) k
    by_leader None is = kept
    by_leader (Some l) is = by_entry (slice_get (decided_of s p) l.applied) refl
      where
        by_entry : (o : Option (ℕ × Proposal)) → slice_get (decided_of s p) l.applied ≡ o → IsKept parts (applied_next parts s p t l o) k
        by_entry None at = kept
        by_entry (Some e) at = cond_both (nat_le e.0 t) (applying parts s p t l e) s (λ (z : Chains). IsKept parts z k) (λ _. item_kept parts s k kept sound p t l is e.0 e.1 at) (λ _. kept)
