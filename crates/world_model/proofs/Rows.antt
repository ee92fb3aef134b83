-- Reads: a row's answer is in the posts of the chains, where its leader knew all that was decided when its round began; and
-- so it did, once the round is confirmed.
use Rattle.std.proofs.Common.{◌≡◌, ◌⊎◌, inl, inr, ℕ, ◌≤◌, List, [], ◌∷◌, ◌++◌, length, map, Option, Some, None, Bool, true, false, cond, refl, ap, sym, subst, ◌∙◌, arith}
use Rattle.std.specs.Prelude.{◌==◌, ◌&&◌, nat_lt, slice_get}
use Rattle.std.specs.List.{AllByRecursion, filter}
use Rattle.std.proofs.lemmas.Bool.{cond_both, cond-true, and_from, eq-eqb, leb-true}
use Rattle.raft_core.proofs.Lists.{all_both, all_through-map}
use Rattle.raft_log.specs.declared.entry.Entry.{Entry}
use Rattle.raft_core.specs.Core.{Core, is_leading, is_ready}
use Rattle.raft_core.specs.Rounds.{confirmed_of}
use Rattle.raft_group.specs.Group.{Round, round_begun, rounds_after}
use Rattle.raft_group.proofs.Led.{last_stands}
use Rattle.std.proofs.lemmas.Option.{none-some}
use Rattle.raft_group.specs.Facts.{KnewDecided, ConfirmsWell}
use Rattle.graph_model.specs.declared.call_id.CallId.{CallId}
use Rattle.graph_model.specs.declared.query.Query.{Query}
use Rattle.chain_leader.specs.declared.body.ChainBody.TheVariants as says
use Rattle.part_keys.specs.declared.vid_kind.VidKind.{VidKind}
use Rattle.chain_world.proofs.Occurring.{after_is}
use Rattle.chain_world.specs.declared.event.ChainEvent.TheVariants.{See}
use Rattle.chain_world.specs.declared.packet.ChainEnd.{ChainEnd}
use Rattle.chain_world.specs.declared.packet.ChainEnd.TheVariants as ends
use Rattle.chain_world.specs.State.{Chains, Leader, Post as ChainPost, decided_of}
use Rattle.chain_world.specs.World.{is_part, first_asked, knows_all, after}
use Rattle.chain_world.proofs.Occurring.{shown_to}
use Rattle.chain_world.proofs.Occurring.{showing, sees}
use Rattle.replica_model.specs.Replica.{Row}
use Rattle.replica_model.specs.Stepped.{Leaving, Viewed, row_with, keeps_rows, rows_with, is_confirmed, answer_row}
use Rattle.world_model.specs.State.{moment_in}
use Rattle.world_model.specs.Grouped.{Has}
use Rattle.world_model.specs.Chained.{chain_post, HasLike, IsRow}
use Rattle.world_model.proofs.Posting.{all_at}

-- See, where the leader has applied all that is decided
pub see_one : (ids : VidKind) (parts p t : ℕ) (part : is_part parts p ≡ true) (c : Chains) (l : Leader) (id : CallId) (query : Query) → c.leaders p t ≡ Some l → l.lead.ready ≡ true → l.applied ≡ length (decided_of c p)
    → first_asked p id c.posts ≡ Some query → after ids parts c (See p t id) ≡ record c { posts = c.posts ++ shown_to parts c p t id query ∷ [] }
see_one ids parts p t part c l id query here ready all asked =
    after_is ids parts c (See p t id)
    ∙ cond-true (is_part parts p) (sees parts c p t id (c.leaders p t)) c part
    ∙ ap (sees parts c p t id) here
    ∙ cond-true (knows_all c p l) (showing parts c p t id (first_asked p id c.posts)) c (and_from l.lead.ready (l.applied == length (decided_of c p)) ready (eq-eqb l.applied (length (decided_of c p)) all))
    ∙ ap (showing parts c p t id) asked

-- what is known of a new row
abbrev pub IsAnswered : List ChainPost → Viewed → ℕ → Type 0
IsAnswered posts x moment = (from : ChainEnd) × Has posts (chain_post from (ends.Client x.id.client) (says.Answer x.id.number x.answer) moment)

abbrev pub IsAskedWell : List ChainPost → Core → ℕ → Option Viewed → ℕ → Type 0
IsAskedWell posts before decided None moment = Unit {0}
IsAskedWell posts before decided (Some x) moment = before.commit ≡ decided → IsAnswered posts x moment

module _ (old : List Round) (decided : List Entry) (before behind : Core) (led : is_leading behind.role ≡ true) (posts : List ChainPost) (asked_at : ℕ → ℕ) where
  abbrev rounds : List Round
  rounds = rounds_after old decided before behind

  abbrev pub Row_is : Row → Type 0
  Row_is row = IsRow posts rounds asked_at behind row

  -- one row more, where the round rose: its moment is now
  new_row : (now : ℕ) → (nat_lt before.round behind.round ≡ true → moment_in asked_at behind.round ≡ now) → (asked : Option Viewed) → (is_ready before ≡ true) ⊎ (asked ≡ None)
      → IsAskedWell posts before (length decided) asked now → AllByRecursion Row_is (row_with asked before behind)
  new_row now is_now None ready well = tt
  new_row now is_now (Some x) ready well = cond_both (nat_lt before.round behind.round) _ [] (AllByRecursion Row_is)
      (λ rose. (
        record {
          round = round_begun (length decided) before behind;
          begun = (length old, ap (λ (xs : List Round). slice_get xs (length old)) (cond-true (is_leading behind.role && nat_lt before.round behind.round) _ old (and_from (is_leading behind.role) (nat_lt before.round behind.round) led rose)) ∙ last_stands old (round_begun (length decided) before behind));
          its_term = refl;
          its_number = refl;
          within = omega arith;
          ready = elim ready [ inl is ↦ is | inr none ↦ absurd (none-some x (sym none)) ];
          seen = λ e. subst (IsAnswered posts x) (sym (is_now rose)) (well e);
        },
        tt,
      ))
      (λ not_so. tt)

  -- the rows behind a step
  pub rows_stay : (now : ℕ) → (nat_lt before.round behind.round ≡ true → moment_in asked_at behind.round ≡ now) → (rows : List Row) (asked : Option Viewed)
      → (keeps_rows before behind ≡ true → AllByRecursion Row_is rows) → (is_ready before ≡ true) ⊎ (asked ≡ None)
      → IsAskedWell posts before (length decided) asked now → AllByRecursion Row_is (rows_with rows asked before behind)
  rows_stay now is_now rows asked are ready well = cond_both (keeps_rows before behind) (rows ++ row_with asked before behind) [] (AllByRecursion Row_is)
      (λ kept. all_both Row_is rows (row_with asked before behind) (are kept) (new_row now is_now asked ready well)) (λ not_so. tt)

  -- a row whose round is confirmed is answered by what was seen
  module _ (part me : ℕ) (well : ConfirmsWell rounds behind) where
    answered_like : (row : Row) → Row_is row × (is_confirmed (confirmed_of behind) row ≡ true) → HasLike posts (answer_row part me row).packet.from (answer_row part me row).packet.to (answer_row part me row).packet.body (moment_in asked_at (answer_row part me row).round)
    answered_like row is =
        (let r = is.0 in
        let low = leb-true row.round (confirmed_of behind) is.1 in
        let n = r.its_number in
        let knew = all_at (λ (x : Round). x.term ≡ behind.term → x.round ≤ confirmed_of behind → KnewDecided x) rounds well r.begun.0 r.round r.begun.1 r.its_term (omega arith) r.ready in
        let seen = r.seen knew in
        record { from = seen.0; sent = tt; there = seen.1 })

    both_of : (rows : List Row) → AllByRecursion Row_is rows → AllByRecursion (λ row. Row_is row × (is_confirmed (confirmed_of behind) row ≡ true)) (filter (is_confirmed (confirmed_of behind)) rows)
    both_of [] all = tt
    both_of (row ∷ rows) all = go (is_confirmed (confirmed_of behind) row) refl (both_of rows all.1)
      where
        go : (b : Bool) → is_confirmed (confirmed_of behind) row ≡ b → AllByRecursion (λ r. Row_is r × (is_confirmed (confirmed_of behind) r ≡ true)) (filter (is_confirmed (confirmed_of behind)) rows)
            → AllByRecursion (λ r. Row_is r × (is_confirmed (confirmed_of behind) r ≡ true)) (cond b (row ∷ filter (is_confirmed (confirmed_of behind)) rows) (filter (is_confirmed (confirmed_of behind)) rows))
        go true e rest = ((all.0, e), rest)
        go false e rest = rest

    pub rows_answered : (rows : List Row) → AllByRecursion Row_is rows
        → AllByRecursion (λ (l : Leaving). HasLike posts l.packet.from l.packet.to l.packet.body (moment_in asked_at l.round)) (map (answer_row part me) (filter (is_confirmed (confirmed_of behind)) rows))
    rows_answered rows all =
        all_through-map (λ row. Row_is row × (is_confirmed (confirmed_of behind) row ≡ true)) (λ (l : Leaving). HasLike posts l.packet.from l.packet.to l.packet.body (moment_in asked_at l.round)) (answer_row part me) answered_like
        (filter (is_confirmed (confirmed_of behind)) rows) (both_of rows all)
