-- No entry tells its client a view, since reads are answered without an entry, or that nobody answered.
use Rattle.std.proofs.Common.{◌≡◌, List, Option, Some, None, Bool, true, false, refl, ap, sym, ◌∙◌}
use Rattle.std.specs.Option.{option_map}
use Rattle.std.proofs.lemmas.Bool.{false≢true}
use Rattle.std.proofs.lemmas.Option.{same_Some, none-some}
use Rattle.graph_model.specs.declared.answer.Answer.{Answer}
use Rattle.graph_model.specs.declared.answer.Answer.TheVariants as said
use Rattle.graph_model.specs.declared.call_id.CallId.{CallId}
use Rattle.graph_model.specs.declared.found.Found.{Found}
use Rattle.graph_model.specs.Same.{is_unknown}
use Rattle.part_keys.specs.declared.entry.PartEntry.{PartEntry}
use Rattle.part_rules.specs.declared.kept.Outcome.{Outcome}
use Rattle.part_rules.specs.declared.kept.Outcome.TheVariants as kept_as
use Rattle.part_rules.specs.declared.applied.Applied.{Applied}
use Rattle.part_rules.specs.declared.applied.Applied.TheVariants as told
use Rattle.chain_leader.specs.Calls.{call_in, kept_answer, answer_of}

-- an entry never tells a view
caller_told : (o : Option CallId) (a : Answer) (id : CallId) (b : Answer) → option_map {U = CallId × Answer} (λ (i : CallId). (i, a)) o ≡ Some (id, b) → a ≡ b
caller_told None a id b e = absurd (none-some (id, b) e)
caller_told (Some i) a id b e = ap (λ (x : CallId × Answer). x.1) (same_Some (i, a) (id, b) e)

abbrev is_view : Answer → Bool
is_view said.Fine = false
is_view said.Skipped = false
is_view said.Pending = false
is_view (said.Conflict other) = false
is_view said.Cancelled = false
is_view said.Unknown = false
is_view (said.Shown view) = true

no_view : (a : Answer) (view : List Found) → is_view a ≡ false → a ≡ said.Shown view → ⊥
no_view a view plain e = false≢true (sym plain ∙ ap is_view e)

kept_never : (x : PartEntry) (o : Outcome) (id : CallId) (view : List Found) → kept_answer x o ≡ Some (id, said.Shown view) → ⊥
kept_never x kept_as.Open id view e = none-some _ e
kept_never x kept_as.Fine id view e = no_view said.Fine view refl (caller_told (call_in x) said.Fine id _ e)
kept_never x kept_as.Skipped id view e = no_view said.Skipped view refl (caller_told (call_in x) said.Skipped id _ e)
kept_never x kept_as.Pending id view e = no_view said.Pending view refl (caller_told (call_in x) said.Pending id _ e)
kept_never x kept_as.Cancelled id view e = no_view said.Cancelled view refl (caller_told (call_in x) said.Cancelled id _ e)
kept_never x (kept_as.Conflict other) id view e = no_view (said.Conflict other) view refl (caller_told (call_in x) (said.Conflict other) id _ e)

pair_told : (i : CallId) (a : Answer) (id : CallId) (view : List Found) → is_view a ≡ false → ◌≡◌ {A = Option (CallId × Answer)} (Some (i, a)) (Some (id, said.Shown view)) → ⊥
pair_told i a id view plain e = no_view a view plain (ap (λ (x : CallId × Answer). x.1) (same_Some (i, a) (id, said.Shown view) e))

pub never_shown : (x : PartEntry) (r : Applied) (id : CallId) (view : List Found) → answer_of x r ≡ Some (id, said.Shown view) → ⊥
never_shown x told.Old id view e = none-some _ e
never_shown x (told.Again outcome) id view e = kept_never x outcome id view e
never_shown x (told.Conflict other) id view e = no_view (said.Conflict other) view refl (caller_told (call_in x) (said.Conflict other) id _ e)
never_shown x told.Skipped id view e = no_view said.Skipped view refl (caller_told (call_in x) said.Skipped id _ e)
never_shown x (told.Begun v) id view e = none-some _ e
never_shown x (told.Settled i) id view e = pair_told i said.Fine id view refl e
never_shown x (told.Doubled i) id view e = pair_told i said.Pending id view refl e
never_shown x (told.Closed i) id view e = pair_told i said.Fine id view refl e
never_shown x (told.Aborted i) id view e = pair_told i said.Cancelled id view refl e
never_shown x (told.Stale term) id view e = none-some _ e
never_shown x told.Done id view e = none-some _ e
never_shown x (told.Fenced written) id view e = none-some _ e
never_shown x (told.Finished i) id view e = pair_told i said.Fine id view refl e
never_shown x told.Nothing id view e = none-some _ e

-- nor that nobody answered
unknown_apart : (a b : Answer) → a ≡ b → is_unknown a ≡ false → is_unknown b ≡ false
unknown_apart a b same plain = sym (ap is_unknown same) ∙ plain

kept_known : (x : PartEntry) (o : Outcome) (id : CallId) (a : Answer) → kept_answer x o ≡ Some (id, a) → is_unknown a ≡ false
kept_known x kept_as.Open id a e = absurd (none-some _ e)
kept_known x kept_as.Fine id a e = unknown_apart said.Fine a (caller_told (call_in x) said.Fine id a e) refl
kept_known x kept_as.Skipped id a e = unknown_apart said.Skipped a (caller_told (call_in x) said.Skipped id a e) refl
kept_known x kept_as.Pending id a e = unknown_apart said.Pending a (caller_told (call_in x) said.Pending id a e) refl
kept_known x kept_as.Cancelled id a e = unknown_apart said.Cancelled a (caller_told (call_in x) said.Cancelled id a e) refl
kept_known x (kept_as.Conflict other) id a e = unknown_apart (said.Conflict other) a (caller_told (call_in x) (said.Conflict other) id a e) refl

pair_known : (i : CallId) (b : Answer) (id : CallId) (a : Answer) → ◌≡◌ {A = Option (CallId × Answer)} (Some (i, b)) (Some (id, a)) → is_unknown b ≡ false → is_unknown a ≡ false
pair_known i b id a e plain = unknown_apart b a (ap (λ (x : CallId × Answer). x.1) (same_Some (i, b) (id, a) e)) plain

pub never_unknown : (x : PartEntry) (r : Applied) (id : CallId) (a : Answer) → answer_of x r ≡ Some (id, a) → is_unknown a ≡ false
never_unknown x told.Old id a e = absurd (none-some _ e)
never_unknown x (told.Again outcome) id a e = kept_known x outcome id a e
never_unknown x (told.Conflict other) id a e = unknown_apart (said.Conflict other) a (caller_told (call_in x) (said.Conflict other) id a e) refl
never_unknown x told.Skipped id a e = unknown_apart said.Skipped a (caller_told (call_in x) said.Skipped id a e) refl
never_unknown x (told.Begun v) id a e = absurd (none-some _ e)
never_unknown x (told.Settled i) id a e = pair_known i said.Fine id a e refl
never_unknown x (told.Doubled i) id a e = pair_known i said.Pending id a e refl
never_unknown x (told.Closed i) id a e = pair_known i said.Fine id a e refl
never_unknown x (told.Aborted i) id a e = pair_known i said.Cancelled id a e refl
never_unknown x (told.Stale term) id a e = absurd (none-some _ e)
never_unknown x told.Done id a e = absurd (none-some _ e)
never_unknown x (told.Fenced written) id a e = absurd (none-some _ e)
never_unknown x (told.Finished i) id a e = pair_known i said.Fine id a e refl
never_unknown x told.Nothing id a e = absurd (none-some _ e)
