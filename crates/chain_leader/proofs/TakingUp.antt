-- What a step of Resume comes to: its rows are taken up in order, and its letters are by the table before the step, because no
-- two chains that stand have one number.
use Rattle.std.proofs.Common.{◌≡◌, ℕ, zero, suc, List, [], ◌∷◌, ◌++◌, map, take, drop, filter, length, Option, None, Some, Bool, true, false, cond, T, ◌&&◌, refl, ap, sym, ◌∙◌}
use Rattle.std.specs.Prelude.{◌==◌, nat_lt, slice_get}
use Rattle.std.specs.declared.cmp.Ordering.{Ordering}
use Rattle.std.specs.declared.cmp.Ordering.TheVariants.{Less, Equal, Greater}
use Rattle.std.specs.FinMap.{get, entries, entries_sorted}
use Rattle.std.specs.FinMap.Entries.{is_sorted, below_all}
use Rattle.std.specs.List.{AllByRecursion}
use Rattle.std.specs.Option.{option_map, option_to_list, unwrap_or}
use Rattle.std.specs.Ordering.{nat_cmp, eq_by_cmp, is_eq, is_lt}
use Rattle.std.proofs.lemmas.Bool.{cond_both, cond-true}
use Rattle.maps.proofs.Found.{entries_got}
use Rattle.maps.proofs.Keys.{nat_keys, told_back}
use Rattle.maps.proofs.Updates.{insert_apart}
use Rattle.part_keys.specs.declared.chain.PrimeRec.{PrimeRec}
use Rattle.part_keys.specs.declared.chain.ChainState.{ChainState}
use Rattle.part_keys.specs.declared.chain.Policy.{Policy}
use Rattle.part_rules.specs.Part.{Part}
use Rattle.part_rules.specs.View.{at_once, chains_behind}
use Rattle.chain_leader.specs.declared.letter.Letter.TheVariants.{Again}
use Rattle.chain_leader.specs.Table.{with_try}
use Rattle.chain_leader.specs.Rules.{Table, resumes, resume}
use Rattle.chain_leader.specs.Leading.{Leading, sends, resumes_all, onward, resuming}
use Rattle.chain_leader.specs.Leader.{resumption}
use Rattle.chain_leader.specs.Resuming.{AreNamed, AreStanding, row_for, taken_up_by, taken_up, all_taken_up, resumptions, further, resumed_by}
use Rattle.chain_leader.proofs.Sent.{resumed_table, resumed_sent}

abbrev Chains : Type 0
Chains = List (ℕ × PrimeRec)

abbrev records : Chains → List PrimeRec
records chains = map (λ (c : ℕ × PrimeRec). c.1) chains

-- The table behind the rule has the row taken up
takes_by : (t : Table) (rec : PrimeRec) (policy : Policy) (o : Option ChainState) → (resumes t rec policy o).0 ≡ taken_up_by t (row_for policy rec) o
takes_by t rec policy None = refl
takes_by t rec policy (Some chain) = refl

behind : (term : ℕ) (t : Table) (rec : PrimeRec) (policy : Policy) → (sends term (resume t rec policy)).table ≡ taken_up t (row_for policy rec)
behind term t rec policy = sym (resumed_table term t rec policy) ∙ takes_by t rec policy (get t rec.v)

tables : (term : ℕ) (policy : Policy) (chains : Chains) (t : Table) → (resumes_all term policy chains t).table ≡ all_taken_up (map (row_for policy) (records chains)) t
tables term policy [] t = refl
tables term policy (c ∷ chains) t = ap (λ u. (resumes_all term policy chains u).table) (behind term t c.1 policy) ∙ tables term policy chains (taken_up t (row_for policy c.1))

-- .. and is as it was at any other number
apart_by : (t : Table) (row : ℕ × ChainState) (o : Option ChainState) (v : ℕ) → eq_by_cmp nat_cmp v row.0 ≡ false → get (taken_up_by t row o) v ≡ get t v
apart_by t row None v h = insert_apart nat_keys t row.0 row.1 v h
apart_by t row (Some chain) v h = insert_apart nat_keys t row.0 (with_try chain) v h

-- Chains of which no two have one number
abbrev IsApart : ℕ → ℕ × PrimeRec → Type 0
IsApart v d = eq_by_cmp nat_cmp d.1.v v ≡ false

abbrev AreApart : Chains → Type 0
AreApart [] = Unit {0}
AreApart (c ∷ chains) = AllByRecursion (IsApart c.1.v) chains × AreApart chains

each : {A : Type 0} {P Q : A → Type 0} → ((a : A) → P a → Q a) → (xs : List A) → AllByRecursion P xs → AllByRecursion Q xs
each f [] h = tt
each f (x ∷ xs) h = (f x h.0, each f xs h.1)

-- The letters are by the table before the step
same_letters : (term : ℕ) (policy : Policy) (t u : Table) (chains : Chains) → AllByRecursion (λ (d : ℕ × PrimeRec). get u d.1.v ≡ get t d.1.v) chains → resumptions term policy u (records chains) ≡ resumptions term policy t (records chains)
same_letters term policy t u [] h = refl
same_letters term policy t u (c ∷ chains) h =
    ap (λ o. resumption term c.1 policy o ∷ resumptions term policy u (records chains)) h.0
    ∙ ap (λ ls. resumption term c.1 policy (get t c.1.v) ∷ ls) (same_letters term policy t u chains h.1)

letters : (term : ℕ) (policy : Policy) (chains : Chains) → AreApart chains → (t : Table) → (resumes_all term policy chains t).letters ≡ resumptions term policy t (records chains)
letters term policy [] h t = refl
letters term policy (c ∷ chains) h t =
    let u = (sends term (resume t c.1 policy)).table in
    ap (λ ls. ls ++ (resumes_all term policy chains u).letters) (sym (resumed_sent term t c.1 policy))
    ∙ ap (λ ls. resumption term c.1 policy (get t c.1.v) ∷ ls) (letters term policy chains h.1 u
    ∙ same_letters term policy t u chains (each (λ (d : ℕ × PrimeRec) (apart : IsApart c.1.v d). ap (λ m. get m d.1.v) (behind term t c.1 policy) ∙ apart_by t (row_for policy c.1) (get t c.1.v) d.1.v apart) chains h.0))

-- Each stands under its own number
abbrev IsNamed : ℕ × PrimeRec → Type 0
IsNamed c = c.1.v ≡ c.0

named_entries : (machine : Part) → AreNamed machine → AllByRecursion IsNamed (entries machine.chains)
named_entries machine named = each (λ (e : ℕ × PrimeRec) (found : get machine.chains e.0 ≡ Some e.1). named e.0 e.1 found) (entries machine.chains) (entries_got nat_keys machine.chains)

-- .. and so no two of a part have one number
first_true : (a b : Bool) → T (a && b) → T a
first_true true b p = tt
first_true false b p = p

second_true : (a b : Bool) → T (a && b) → T b
second_true true b p = p
second_true false b p = absurd p

not_tied : (r : Ordering) → T (is_lt r) → is_eq r ≡ false
not_tied Less p = refl
not_tied Equal p = absurd p
not_tied Greater p = refl

below_apart : (v k : ℕ) → v ≡ k → (es : Chains) → AllByRecursion IsNamed es → T (below_all nat_cmp k es) → AllByRecursion (IsApart v) es
below_apart v k same [] named h = tt
below_apart v k same (e ∷ es) named h = (
  (λ i. eq_by_cmp nat_cmp (named.0 i) (same i)) ∙ told_back nat_keys e.0 k ∙ not_tied (nat_cmp k e.0) (first_true _ _ h),
  below_apart v k same es named.1 (second_true _ _ h),
)

sorted_apart : (es : Chains) → AllByRecursion IsNamed es → T (is_sorted nat_cmp es) → AreApart es
sorted_apart [] named h = tt
sorted_apart (e ∷ es) named h = (below_apart e.1.v e.0 named.0 es named.1 (first_true _ _ h), sorted_apart es named.1 (second_true _ _ h))

-- in the first chains of a list, and in those that pass a test
all_first : {A : Type 0} (P : A → Type 0) (n : ℕ) (xs : List A) → AllByRecursion P xs → AllByRecursion P (take n xs)
all_first P zero xs h = tt
all_first P (suc n) [] h = tt
all_first P (suc n) (x ∷ xs) h = (h.0, all_first P n xs h.1)

all_where : {A : Type 0} (P : A → Type 0) (test : A → Bool) (xs : List A) → AllByRecursion P xs → AllByRecursion P (filter test xs)
all_where P test [] h = tt
all_where P test (x ∷ xs) h = cond_both (test x) _ _ (AllByRecursion P) (λ _. (h.0, all_where P test xs h.1)) (λ _. all_where P test xs h.1)

apart_first : (n : ℕ) (chains : Chains) → AreApart chains → AreApart (take n chains)
apart_first zero chains h = tt
apart_first (suc n) [] h = tt
apart_first (suc n) (c ∷ chains) h = (all_first (IsApart c.1.v) n chains h.0, apart_first n chains h.1)

apart_where : (test : ℕ × PrimeRec → Bool) (chains : Chains) → AreApart chains → AreApart (filter test chains)
apart_where test [] h = tt
apart_where test (c ∷ chains) h = cond_both (test c) _ _ AreApart (λ _. (all_where (IsApart c.1.v) test chains h.0, apart_where test chains h.1)) (λ _. apart_where test chains h.1)

-- The further Resume is behind the 64th of them
onward_at : (n : ℕ) (chains : Chains) → AllByRecursion IsNamed chains → map (λ (c : ℕ × PrimeRec). Again (Some c.0)) (take 1 (drop n chains)) ≡ option_to_list (option_map (λ (rec : PrimeRec). Again (Some rec.v)) (slice_get (records (take (suc n) chains)) n))
onward_at zero [] h = refl
onward_at zero (c ∷ chains) h = ap (λ v. Again (Some v) ∷ []) (sym h.0)
onward_at (suc n) [] h = refl
onward_at (suc n) (c ∷ chains) h = onward_at n chains h.1

onward_by : (chains : Chains) → AllByRecursion IsNamed chains → (more : Bool) → cond more (map (λ (c : ℕ × PrimeRec). Again (Some c.0)) (take 1 (drop 63 chains))) [] ≡ option_to_list (further more (records (take at_once chains)))
onward_by chains h true = onward_at 63 chains h
onward_by chains h false = refl

module _ (machine : Part) (after : Option ℕ) (standing : List PrimeRec) (more : Bool) (h : AreStanding machine after standing more) where
  abbrev chains : Chains
  chains = chains_behind (unwrap_or after 0) machine

  named : AllByRecursion IsNamed chains
  named = all_where IsNamed (λ (c : ℕ × PrimeRec). nat_lt (unwrap_or after 0) c.0) (entries machine.chains) (named_entries machine h.named)

  apart : AreApart (take at_once chains)
  apart = apart_first at_once chains (apart_where (λ (c : ℕ × PrimeRec). nat_lt (unwrap_or after 0) c.0) (entries machine.chains) (sorted_apart (entries machine.chains) (named_entries machine h.named) (entries_sorted machine.chains)))

  onward_is : onward chains ≡ option_to_list (further more standing)
  onward_is = onward_by chains named (nat_lt at_once (length chains)) ∙ (λ i. option_to_list (further (sym h.further i) (sym h.first i)))

  pub resumed_is : (term : ℕ) (l : Leading) → resuming term l chains ≡ resumed_by term l standing more
  resumed_is term l =
      let table = tables term l.policy (take at_once chains) l.table ∙ ap (λ recs. all_taken_up (map (row_for l.policy) recs) l.table) (sym h.first) in
      let sent = letters term l.policy (take at_once chains) apart l.table ∙ ap (resumptions term l.policy l.table) (sym h.first) in
      (λ i. record { leading = record l { table = table i }; proposals = []; letters = sent i ++ onward_is i })

  both_true : (a b : Bool) → a ≡ true → b ≡ true → (a && b) ≡ true
  both_true true b e f = f
  both_true false b e f = e

  -- a ready leader of the packet's term
  pub ready_is : (term of : ℕ) (l : Leading) → l.ready ≡ true → (of == term) ≡ true → cond (l.ready && (of == term)) (resuming term l chains) (record { leading = l; proposals = []; letters = [] }) ≡ resumed_by term l standing more
  ready_is term of l ready own = cond-true _ _ _ (both_true l.ready (of == term) ready own) ∙ resumed_is term l
