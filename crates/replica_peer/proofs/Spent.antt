-- Hints that are used up, one after another, and the hints of chains that left the table.
use Rattle.std.proofs.Common.{◌≡◌, ℕ, List, [], ◌∷◌, Option, None, Some, Bool, true, false, cond, inl, inr, refl, ap, sym, ◌∙◌}
use Rattle.std.specs.Prelude.{◌==◌, ◌||◌, ◌&&◌, not, if◌then◌else◌}
use Rattle.std.specs.FinMap.{get, contains_key, get-insert, get-remove}
use Rattle.std.specs.List.{list_any}
use Rattle.std.specs.Option.{unwrap_or, option_map, is_some}
use Rattle.std.specs.Ordering.{eq_by_cmp, nat_cmp}
use Rattle.std.proofs.lemmas.Bool.{eq-eqb, ne_eqb, eqb-true, both_ways}
use Rattle.maps.specs.Maps.{with_at}
use Rattle.maps.proofs.Keys.{nat_keys, same_or_apart, same_itself, not_apart}
use Rattle.maps.proofs.Updates.{get-with_at, get-altered}
use Rattle.part_keys.specs.declared.chain.ChainState.{ChainState}
use Rattle.part_keys.specs.declared.entry.PartEntry.{PartEntry}
use Rattle.part_rules.specs.Machine.{applied}
use Rattle.part_rules.specs.Part.{Part}
use Rattle.chain_leader.specs.Leading.{chain_in, forgetting}
use Rattle.chain_leader.specs.Rules.{Table, forget}
use Rattle.chain_leader.specs.Table.{with_asked, with_double}
use Rattle.replica_model.specs.Laws.{HintsStand}
use Rattle.replica_model.specs.Replica.{Replica}
use Rattle.replica_state.specs.Asked.{ruled_table}
use Rattle.replica_state.specs.Places.{standing, number_held}
use Rattle.replica_state.specs.declared.asked.Rule.{Rule}
use Rattle.replica_state.specs.declared.asked.Rule.TheVariants.{Stays, Asks as AsksFor, Doubles}
use Rattle.replica_peer.specs.Ended.{ends_at, ends_among}
use Rattle.replica_peer.specs.Next.{table_left, hints_left, spent}
use Rattle.replica_peer.specs.Worked.{with_row, tabled}

-- numbers are told apart by their order
pub told : (q k : ℕ) → eq_by_cmp nat_cmp q k ≡ (q == k)
told q k = elim (same_or_apart nat_keys q k) as (λ _. eq_by_cmp nat_cmp q k ≡ (q == k)) [
  | inl same ↦ ap (λ x. eq_by_cmp nat_cmp q x) (sym same) ∙ same_itself nat_keys q ∙ sym (eq-eqb q k same)
  | inr apart ↦ apart ∙ sym (ne_eqb q k (λ same. not_apart nat_keys q k same apart))
]

abbrev pub zero_where : Bool → ℕ → ℕ
zero_where b n = if b then 0 else n

-- one hint and then others, and one and then others where the chain is gone
pub more : (one rest : Bool) (n : ℕ) → zero_where rest (zero_where one n) ≡ zero_where (one || rest) n
more true true n = refl
more true false n = refl
more false rest n = refl

pub more_gone : (one rest gone : Bool) (n : ℕ) → zero_where (rest && gone) (zero_where (one && gone) n) ≡ zero_where ((one || rest) && gone) n
more_gone true true true n = refl
more_gone true true false n = refl
more_gone true false true n = refl
more_gone true false false n = refl
more_gone false rest gone n = refl

through : (b : Bool) (o : Option ℕ) → unwrap_or (cond b None o) 0 ≡ zero_where b (unwrap_or o 0)
through true o = refl
through false o = refl

-- a hint that is wiped
pub one_wiped : (es fs : List (ℕ × Option ℕ)) (w : ℕ) → standing fs ≡ with_at (standing es) w None → (v : ℕ) → number_held fs v ≡ zero_where (v == w) (number_held es v)
one_wiped es fs w e v =
    ap (λ m. unwrap_or (get m v) 0) e
    ∙ ap (λ o. unwrap_or o 0) (get-with_at nat_keys (standing es) w None v)
    ∙ through (eq_by_cmp nat_cmp v w) (get (standing es) v)
    ∙ ap (λ b. zero_where b (number_held es v)) (told v w)

put_through : (b : Bool) (x : ℕ) (o : Option ℕ) → unwrap_or (cond b (Some x) o) 0 ≡ (if b then x else unwrap_or o 0)
put_through true x o = refl
put_through false x o = refl

-- a hint that is set
pub one_pointed : (es fs : List (ℕ × Option ℕ)) (v peer : ℕ) → standing fs ≡ with_at (standing es) v (Some peer) → number_held fs ≡ (λ w. if w == v then peer else number_held es w)
one_pointed es fs v peer e = λ i w. (
    ap (λ m. unwrap_or (get m w) 0) e
    ∙ ap (λ o. unwrap_or o 0) (get-with_at nat_keys (standing es) v (Some peer) w)
    ∙ put_through (eq_by_cmp nat_cmp w v) peer (get (standing es) w)
    ∙ ap (λ (b : Bool). if b then peer else number_held es w) (told w v)) i

-- .. where its chain is gone
pub gone_is : (t : Table) (v w n : ℕ) → get t w ≡ None → zero_where (v == w) n ≡ zero_where ((v == w) && not (contains_key t v)) n
gone_is t v w n none = go (v == w) refl
  where
    go : (b : Bool) → (v == w) ≡ b → zero_where b n ≡ zero_where (b && not (contains_key t v)) n
    go true same = ap (λ o. zero_where (not (is_some o)) n) (sym (ap (get t) (eqb-true v w same) ∙ none))
    go false other = refl

-- a set that is there, and one that stands apart
kept_apart : {X : Type 0} (b : Bool) (w o : Option X) → b ≡ false → is_some o ≡ true → is_some (cond b w o) ≡ true
kept_apart b w o apart there = ap (λ c. is_some (cond c w o)) apart ∙ there

pub kept_either : {X : Type 0} (b : Bool) (x : X) (o : Option X) → is_some o ≡ true → is_some (cond b (Some x) o) ≡ true
kept_either true x o there = refl
kept_either false x o there = there

module _ (v : ℕ) where
  -- what a table keeps
  row_stays : (t : Table) (row : Option (ℕ × ChainState)) → contains_key t v ≡ true → contains_key (with_row t row) v ≡ true
  row_stays t None there = there
  row_stays t (Some row) there = ap is_some (get-insert nat_keys.total t row.0 row.1 v) ∙ kept_either (eq_by_cmp nat_cmp v row.0) row.1 (get t v) there

  forgets_others : (t : Table) (behind : Part) (ended : Option ℕ) → ends_at v ended ≡ false → contains_key t v ≡ true → contains_key (forgetting t behind ended) v ≡ true
  forgets_others t behind None other there = there
  forgets_others t behind (Some w) other there = by (contains_key behind.chains w)
    where
      by : (b : Bool) → contains_key (if b then t else forget t w) v ≡ true
      by true = there
      by false = ap is_some (get-remove nat_keys.total t w v) ∙ kept_apart (eq_by_cmp nat_cmp v w) None (get t v) (told v w ∙ other) there

  or_first : (a b : Bool) → (a || b) ≡ false → a ≡ false
  or_first true b e = e
  or_first false b e = refl

  or_second : (a b : Bool) → (a || b) ≡ false → b ≡ false
  or_second true b e = absurd (both_ways true e refl)
  or_second false b e = e

  -- a chain that no entry ends stays
  pub stays_in : (parts : ℕ) (entries : List (ℕ × PartEntry)) (begins : List (Option (ℕ × ChainState))) (p : Part) (t : Table)
      → ends_among v entries ≡ false → contains_key t v ≡ true → contains_key (tabled parts p t entries begins) v ≡ true
  stays_in parts [] begins p t none there = there
  stays_in parts (x ∷ entries) [] p t none there =
      stays_in parts entries [] (applied parts x.0 x.1 p).0 (forgetting t (applied parts x.0 x.1 p).0 (chain_in x.1)) (or_second (ends_at v (chain_in x.1)) (ends_among v entries) none)
      (forgets_others t (applied parts x.0 x.1 p).0 (chain_in x.1) (or_first (ends_at v (chain_in x.1)) (ends_among v entries) none) there)
  stays_in parts (x ∷ entries) (b ∷ begins) p t none there =
      stays_in parts entries begins (applied parts x.0 x.1 p).0 (with_row (forgetting t (applied parts x.0 x.1 p).0 (chain_in x.1)) b) (or_second (ends_at v (chain_in x.1)) (ends_among v entries) none)
      (row_stays (forgetting t (applied parts x.0 x.1 p).0 (chain_in x.1)) b
      (forgets_others t (applied parts x.0 x.1 p).0 (chain_in x.1) (or_first (ends_at v (chain_in x.1)) (ends_among v entries) none) there))

  some_altered : {X : Type 0} (b : Bool) (f : X → X) (o : Option X) → is_some o ≡ true → is_some (cond b (option_map f o) o) ≡ true
  some_altered true f None there = there
  some_altered true f (Some x) there = refl
  some_altered false f o there = there

  rule_stays : (rule : Rule) (t : Table) → contains_key t v ≡ true → contains_key (ruled_table rule t) v ≡ true
  rule_stays Stays t there = there
  rule_stays (AsksFor w) t there = ap is_some (get-altered nat_keys t w with_asked v) ∙ some_altered (eq_by_cmp nat_cmp v w) with_asked (get t v) there
  rule_stays (Doubles w) t there = ap is_some (get-altered nat_keys t w with_double v) ∙ some_altered (eq_by_cmp nat_cmp v w) with_double (get t v) there

-- Of a chain that isn't in the table behind, and that no entry ended, no hint is left.
pub none_left : (r : Replica) → HintsStand r → (on : Bool) (rule : Rule) (parts : ℕ) (p : Part) (entries : List (ℕ × PartEntry)) (begins : List (Option (ℕ × ChainState))) (v : ℕ)
    → ends_among v entries ≡ false → contains_key (tabled parts p (table_left on rule r.lead.table) entries begins) v ≡ false → hints_left on r.hints v ≡ 0
none_left r stand false rule parts p entries begins v none off = refl
none_left r stand true rule parts p entries begins v none off = by (contains_key r.lead.table v) refl
  where
    by : (b : Bool) → contains_key r.lead.table v ≡ b → r.hints v ≡ 0
    by true there = absurd (both_ways (contains_key (tabled parts p (ruled_table rule r.lead.table) entries begins) v) off (stays_in v parts entries begins p (ruled_table rule r.lead.table) none (rule_stays v rule r.lead.table there)))
    by false gone = stand v gone

-- the hints of the told chains, and of those that ended and are gone, are all that the table asks for
spent_by : (sent gone ended : Bool) (n : ℕ) → (ended ≡ false → gone ≡ true → n ≡ 0) → zero_where (ended && gone) (zero_where sent n) ≡ zero_where (sent || gone) n
spent_by true true true n zero = refl
spent_by true true false n zero = refl
spent_by true false true n zero = refl
spent_by true false false n zero = refl
spent_by false true true n zero = refl
spent_by false true false n zero = zero refl refl
spent_by false false true n zero = refl
spent_by false false false n zero = refl

not_true : (b : Bool) → not b ≡ true → b ≡ false
not_true true e = sym e
not_true false e = refl

pub spent_is : (r : Replica) → HintsStand r → (on : Bool) (rule : Rule) (parts : ℕ) (p : Part) (entries : List (ℕ × PartEntry)) (begins : List (Option (ℕ × ChainState))) (sent : List ℕ) (v : ℕ)
    → zero_where (ends_among v entries && not (contains_key (tabled parts p (table_left on rule r.lead.table) entries begins) v)) (zero_where (list_any (λ w. v == w) sent) (hints_left on r.hints v))
    ≡ spent sent (tabled parts p (table_left on rule r.lead.table) entries begins) (hints_left on r.hints) v
spent_is r stand on rule parts p entries begins sent v =
    let t : Table = tabled parts p (table_left on rule r.lead.table) entries begins in
    spent_by (list_any (λ w. v == w) sent) (not (contains_key t v)) (ends_among v entries) (hints_left on r.hints v)
    (λ none gone. none_left r stand on rule parts p entries begins v none (not_true (contains_key t v) gone))
