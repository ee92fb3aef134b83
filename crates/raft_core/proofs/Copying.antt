-- Entries behind an index, one after the other; and the configuration behind them.
use Rattle.std.proofs.Common.{◌≡◌, refl, inl, inr, Bool, true, false, ℕ, ◌+◌, ◌-◌, ◌<◌, ◌≤◌, min, List, [], ◌∷◌, ◌++◌, length, take, drop, get_or, slice_get, Some, None, ap, sym, ◌∙◌, arith, add-one, take_all, append_assoc, length-append}
use Rattle.std.specs.Prelude.{if◌then◌else◌}
use Rattle.std.proofs.lemmas.List.{take_more, get_or-drop, length-drop, drop-take, take-take, take-append-le, length-take-le}
use Rattle.std.proofs.lemmas.Bool.{cases_lt}
use Rattle.std.proofs.lemmas.Option.{slice_get_within, slice_get-get_or, get_or_from_slice_get}
use Rattle.raft_log.specs.declared.config.Config.{Config}
use Rattle.raft_log.specs.declared.entry.Entry.{Entry}
use Rattle.raft_log.specs.declared.entry.Item.TheVariants.{NoOp}
use Rattle.raft_log.specs.Log.{entry_at, config_behind, config_from, config_of, config_index, index_before, is_members, no_members}

module _ (log : List Entry) (behind k : ℕ) where
  pub one_more : (entry : Entry) → entry_at log (behind + k + 1) ≡ Some entry → take (k + 1) (drop behind log) ≡ take k (drop behind log) ++ entry ∷ []
  one_more entry e =
      let at : slice_get log (behind + k) ≡ Some entry = rw add-one at e in
      let inside = slice_get_within log (behind + k) entry at in
      let long = length-drop behind log in
      let more = take_more (drop behind log) k entry (omega (arith, long, inside)) in
      let here : get_or (drop behind log) k entry ≡ entry = get_or-drop behind log k entry ∙ get_or_from_slice_get log (behind + k) entry entry at in
      more ∙ ap (λ x. take k (drop behind log) ++ x ∷ []) here

  pub no_more : (n : ℕ) → entry_at log (behind + k + 1) ≡ None → k < n → take k (drop behind log) ≡ take n (drop behind log)
  no_more n e below =
      let at : slice_get log (behind + k) ≡ None = rw add-one at e in
      let long = length-drop behind log in
      elim (cases_lt (behind + k) (length log)) [
        | inl inside ↦ absurd (let there = slice_get-get_or log (behind + k) (record { term = 0; item = NoOp }) inside in cc)
        | inr past ↦ take_all k (drop behind log) (omega (arith, long, past)) ∙ sym (take_all n (drop behind log) (omega (arith, long, past, below)))
      ]

  -- as many as there are, or as were asked for
  pub enough : (most : ℕ) → k ≡ min (length log - behind) most → take k (drop behind log) ≡ take most (drop behind log)
  enough most e = let long = length-drop behind log in elim (cases_lt (length log - behind) most) [
    | inl fewer ↦ take_all k (drop behind log) (omega (arith, long, e, fewer)) ∙ sym (take_all most (drop behind log) (omega (arith, long, fewer)))
    | inr more ↦ (let same : k ≡ most = omega (arith, e, more) in ap (λ n. take n (drop behind log)) same)
  ]

-- the last configuration, where entries come behind a log
from_on : (config : Config) (log entries : List Entry) → config_from config (log ++ entries) ≡ config_from (config_from config log) entries
from_on config [] entries = refl
from_on config (entry ∷ log) entries = from_on (config_behind config entry.item) log entries

pub config_on : (log entries : List Entry) → config_of (log ++ entries) ≡ config_from (config_of log) entries
config_on log entries = from_on no_members log entries

-- one entry more
pub one_config : (config : Config) (entries : List Entry) (i : ℕ) (entry : Entry) → i < length entries → get_or entries i entry ≡ entry
    → config_from config (take (i + 1) entries) ≡ config_behind (config_from config (take i entries)) entry.item
one_config config entries i entry inside here =
    ap (config_from config) (take_more entries i entry inside ∙ ap (λ x. take i entries ++ x ∷ []) here) ∙ from_on config (take i entries) (entry ∷ [])

-- its place, where one entry more comes behind a log
index_on : (log : List Entry) (entry : Entry) → config_index (log ++ entry ∷ []) ≡ (if is_members entry.item then length log + 1 else config_index log)
index_on [] entry = refl
index_on (x ∷ log) entry = ap (index_before x.item) (index_on log entry) ∙ behind_first (is_members entry.item)
  where
    behind_first : (b : Bool) → index_before x.item (if b then length log + 1 else config_index log) ≡ (if b then length (x ∷ log) + 1 else index_before x.item (config_index log))
    behind_first true = ap (index_before x.item) (add-one (length log)) ∙ sym (add-one (length (x ∷ log)))
    behind_first false = refl

pub one_index : (log entries : List Entry) (i : ℕ) (entry : Entry) → i < length entries → get_or entries i entry ≡ entry
    → config_index (log ++ take (i + 1) entries) ≡ (if is_members entry.item then length log + i + 1 else config_index (log ++ take i entries))
one_index log entries i entry inside here =
    let long = length-append log (take i entries) in
    let taken = length-take-le i entries (omega (arith, inside)) in
    ap (λ xs. config_index (log ++ xs)) (take_more entries i entry inside ∙ ap (λ x. take i entries ++ x ∷ []) here)
    ∙ ap config_index (sym (append_assoc log (take i entries) (entry ∷ [])))
    ∙ index_on (log ++ take i entries) entry
    ∙ ap (λ n. if is_members entry.item then n else config_index (log ++ take i entries)) (omega (arith, long, taken))

-- the entries behind an index up to another
pub between : (behind upto : ℕ) (log : List Entry) → behind ≤ upto → take (upto - behind) (drop behind log) ≡ drop behind (take upto log)
between behind upto log rises = let e : behind + (upto - behind) ≡ upto = omega arith in sym (drop-take behind (upto - behind) log) ∙ ap (λ n. drop behind (take n log)) e

-- up to an index that is kept, the log behind a step is the one before
pub take_kept : (index keep : ℕ) (log entries : List Entry) → index ≤ keep → keep ≤ length log → take index (take keep log ++ entries) ≡ take index log
take_kept index keep log entries below within =
    let l = length-take-le keep log within in
    take-append-le index (take keep log) entries (omega (arith, l, below)) ∙ take-take index keep log below
