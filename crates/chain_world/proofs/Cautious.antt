-- A leader's rules fence a chain only with policy Cancel.
use Rattle.std.proofs.Common.{◌≡◌, inl, inr, ℕ, List, [], ◌∷◌, Option, Some, None, Bool, true, false, refl, ap, sym, ◌∙◌}
use Rattle.std.specs.FinMap.{get, insert}
use Rattle.std.proofs.lemmas.Bool.{false≢true, cond_both}
use Rattle.std.proofs.lemmas.Option.{same_Some}
use Rattle.part_keys.specs.declared.chain.ChainState.{ChainState}
use Rattle.part_keys.specs.declared.chain.PrimeRec.{PrimeRec}
use Rattle.part_keys.specs.declared.chain.Mode.{Mode}
use Rattle.part_keys.specs.declared.chain.Mode.TheVariants.{Put, Doubled}
use Rattle.part_keys.specs.declared.chain.Policy.{Policy}
use Rattle.part_keys.specs.declared.chain.Policy.TheVariants.{Forward, Cancel}
use Rattle.part_keys.specs.declared.entry.PartEntry.{PartEntry}
use Rattle.part_rules.specs.Part.{Part}
use Rattle.part_rules.specs.declared.applied.Applied.{Applied}
use Rattle.graph_model.specs.declared.call_id.CallId.{CallId}
use Rattle.chain_leader.specs.declared.body.ChainBody.{ChainBody}
use Rattle.chain_leader.specs.declared.body.ChainBody.TheVariants as says
use Rattle.chain_leader.specs.Rules.{Table, added, mode_by, mode_for, asks_once, give_up}
use Rattle.chain_leader.specs.Leading.{and_then, resumes_all, forgetting, begins, ruled_by, Ruled}
use Rattle.chain_world.specs.declared.packet.ChainEnd.{ChainEnd}
use Rattle.chain_world.specs.Places.{Among}
use Rattle.chain_world.specs.State.{Post, posts_of}
use Rattle.chain_world.specs.Invariant.Protocol.{is_fence}
use Rattle.chain_world.specs.Invariant.Cancelling.{FencesBy}
use Rattle.chain_world.proofs.Folding.{found_inserted}
use Rattle.chain_world.proofs.Tables.{IsSet, IsTakenUp, asks_cases, give_up_cases, resume_cases, primed_case}
use Rattle.chain_world.proofs.Ready.{same_or_other}
use Rattle.chain_world.proofs.Forgetting.{forgot_back, ruled_cases}

-- a Fence
abbrev pub is_fence_body : ChainBody → Bool
is_fence_body (says.Request number x) = false
is_fence_body (says.Answer number answer) = false
is_fence_body (says.NotLeader about q hint) = false
is_fence_body (says.Remote t v list) = false
is_fence_body (says.Done t v) = false
is_fence_body (says.Stale t v above) = false
is_fence_body (says.Fence t v edges) = true
is_fence_body (says.Fenced t v written) = false
is_fence_body (says.Resume t behind) = false

-- only with policy Cancel one of these packets is a Fence
abbrev pub PostsBy : Policy → List Post → Type 0
PostsBy policy posts = (post : Post) → Among post posts → is_fence_body post.packet.body ≡ true → policy ≡ Cancel

module _ (policy : Policy) where
  -- a row is set
  pub fences_insert : (t : Table) (v : ℕ) (row : ChainState) → FencesBy policy t → (is_fence row.mode ≡ true → policy ≡ Cancel) → FencesBy policy (insert t v row)
  fences_insert t v row by its w x has kind = elim (found_inserted t v row w x has) [ inl here ↦ its (ap (λ (y : ChainState). is_fence y.mode) (sym here.1) ∙ kind) | inr old ↦ by w x old kind ]

  fences_set : (t : Table) (v : ℕ) (row : ChainState) (u : Table) → FencesBy policy t → IsSet t v row u → (is_fence row.mode ≡ true → policy ≡ Cancel) → FencesBy policy u
  fences_set t v row u by set its w x has kind = elim (same_or_other w v) [
    | inl here ↦ its (sym set.same.fence ∙ ap (λ (y : ChainState). is_fence y.mode) (same_Some set.here x (sym set.there ∙ ap (get u) (sym here) ∙ has)) ∙ kind)
    | inr other ↦ by w x (sym (set.others w other) ∙ has) kind
  ]

  -- what ends a chain is asked for; a call is given up; chains are forgotten
  pub fences_asks : (t : Table) (v : ℕ) (ending : ChainState → Option PartEntry) → FencesBy policy t → FencesBy policy (asks_once t v ending (get t v)).0
  fences_asks t v ending by = asks_cases (λ (made : Table × Option PartEntry). FencesBy policy made.0) t v ending by (λ row x there ends. fences_insert t v (record row { asked = true }) by (by v row there))

  pub fences_give_up : (t : Table) (id : CallId) → FencesBy policy t → FencesBy policy (give_up t id).0
  fences_give_up t id by = give_up_cases (λ (made : Table × Option PartEntry). FencesBy policy made.0) t id by (λ v row there plain its. fences_insert t v (record row { mode = Doubled }) by (λ e. absurd (false≢true e)))

  pub fences_forgetting : (t : Table) (p : Part) (o : Option ℕ) → FencesBy policy t → FencesBy policy (forgetting t p o)
  fences_forgetting t p o by v row has kind = by v row (forgot_back t p o v row has).0 kind

  -- a chain that is taken up is fenced by policy
  mode_cancels : (rec : PrimeRec) → is_fence (mode_for rec policy) ≡ true → policy ≡ Cancel
  mode_cancels rec = cond_both rec.double Doubled (mode_by policy) (λ (m : Mode). is_fence m ≡ true → policy ≡ Cancel) (λ _ e. absurd (false≢true e)) (λ _. by_policy policy)
    where
      by_policy : (x : Policy) → is_fence (mode_by x) ≡ true → x ≡ Cancel
      by_policy Forward e = absurd (false≢true e)
      by_policy Cancel e = refl

  taken_up_cancels : (t : Table) (rec : PrimeRec) (row : ChainState) → FencesBy policy t → IsTakenUp t rec policy row → is_fence row.mode ≡ true → policy ≡ Cancel
  taken_up_cancels t rec row by (inl new) kind = mode_cancels rec (ap (λ (y : ChainState). is_fence y.mode) (sym new.1) ∙ kind)
  taken_up_cancels t rec row by (inr old) kind = by rec.v old.0 old.1 (ap (λ (y : ChainState). is_fence y.mode) (sym old.2) ∙ kind)

  -- a step of Resume: the table, and what leaves
  pub resumes_careful : (p t : ℕ) (chains : List (ℕ × PrimeRec)) (table : Table) → FencesBy policy table
      → FencesBy policy (resumes_all t policy chains table).table × PostsBy policy (posts_of p t None (resumes_all t policy chains table).letters)
  resumes_careful p t [] table by = (by, λ post none. absurd none)
  resumes_careful p t (c ∷ chains) table by =
      resume_cases (λ (made : Ruled). FencesBy policy (and_then made (resumes_all t policy chains)).table × PostsBy policy (posts_of p t None (and_then made (resumes_all t policy chains)).letters)) t table c.1 policy
      (λ row up kind u route set. (let rest = resumes_careful p t chains u (fences_set table c.1.v row u by set (taken_up_cancels table c.1 row by up)) in
      (rest.0, λ post among fence. elim among [ inl same ↦ absurd (false≢true (ap (λ (y : Post). is_fence_body y.packet.body) (sym same) ∙ fence)) | inr more ↦ rest.1 post more fence ])))
      (λ row up kind u route set. (let rest = resumes_careful p t chains u (fences_set table c.1.v row u by set (taken_up_cancels table c.1 row by up)) in
      (rest.0, λ post among fence. elim among [ inl same ↦ taken_up_cancels table c.1 row by up kind | inr more ↦ rest.1 post more fence ])))

  -- what the rules make of an answer: a chain that begins is put
  pub ruled_careful : (p t : ℕ) (sender : Option ChainEnd) (table : Table) (b : Bool) (m : Part) (a : Applied) → FencesBy policy table
      → FencesBy policy (ruled_by b t table m a).table × PostsBy policy (posts_of p t sender (ruled_by b t table m a).letters)
  ruled_careful p t sender table b m a by = ruled_cases (λ (ru : Ruled). FencesBy policy ru.table × PostsBy policy (posts_of p t sender ru.letters)) t table m b a
      (λ ready v e. by_record (get m.chains v)) (λ other. (by, λ post none. absurd none))
    where
      by_record : (o : Option PrimeRec) → FencesBy policy (begins t table o).table × PostsBy policy (posts_of p t sender (begins t table o).letters)
      by_record None = (by, λ post none. absurd none)
      by_record (Some rec) = primed_case (λ (ru : Ruled). FencesBy policy ru.table × PostsBy policy (posts_of p t sender ru.letters)) t table rec
          (λ u route set. (
            fences_set table rec.v (added rec Put) u by set (λ e. absurd (false≢true e)),
            λ post among fence. elim among [ inl same ↦ absurd (false≢true (ap (λ (y : Post). is_fence_body y.packet.body) (sym same) ∙ fence)) | inr none ↦ absurd none ],
          ))
