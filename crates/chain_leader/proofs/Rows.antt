-- What is found among rising rows, and what an edit does.
use Rattle.std.proofs.Common.{◌≡◌, ℕ, zero, suc, ◌+◌, ◌-◌, ◌<◌, ◌≤◌, eqb, ◌≢◌, [], ◌∷◌, length, get_or, set, cond, if◌then◌else◌, Some, None, Option, Result, Ok, Err, IfOk, IfErr, refl, sym, ap, subst, ◌∙◌, arith}
use Rattle.std.specs.List.{insert, remove}
use Rattle.std.specs.List.Sorted.{IsSearchInRange, IsBinarySearchResult, IsNonDecreasingBy, IsStrictlySortedBy}
use Rattle.std.specs.Ordering.{nat_cmp, ordering_index}
use Rattle.std.specs.Map.{lookup, keys_of}
use Rattle.std.specs.BTreeMap.{is_at}
use Rattle.std.specs.FinMap as fin
use Rattle.std.proofs.lemmas.Cmp.{ranked}
use Rattle.std.proofs.lemmas.Map.Keys.{sorted_from_strictly_increasing}
use Rattle.std.proofs.lemmas.List.{length-map}
use Rattle.std.proofs.lemmas.List.Sorted.{IsNonDecreasingBy-from_default}
use Rattle.std.proofs.lemmas.List.Edits.{length-insert, length-remove, get_or-insert_below, get_or-insert_at, get_or-insert_above, get_or-remove_below, get_or-remove_above}
use Rattle.std.proofs.lemmas.Bool.Decides.{nat_tests}
use Rattle.std.proofs.lemmas.Grind.{common_steps}
use Rattle.std.proofs.lemmas.List.{get_or_default}
use Rattle.maps.specs.Maps.{with_at, altered, altered_from}
use Rattle.maps.proofs.Updates.{remove_absent}
use Rattle.chain_leader.specs.Rules.{Table}
use Rattle.maps.proofs.Keys.{nat_keys}
use Rattle.maps.proofs.Made.{made, get_made}
use Rattle.part_keys.specs.declared.chain.ChainState.{ChainState}
use Rattle.chain_leader.specs.Rows.{Rows, no_chain, number_at, AreRising, IsAt, IsGapFor}

-- the chain of the first row with the number
abbrev pub chain_of : Rows → ℕ → Option ChainState
chain_of [] v = None
chain_of (row ∷ rows) v = if eqb row.0 v then Some row.1 else chain_of rows v

abbrev pub NotBefore : Rows → ℕ → ℕ → Type 0
NotBefore l k i = (j : ℕ) → j < i → number_at l j ≢ k

abbrev pub AfterSet : Rows → Rows → ℕ → Option ChainState → Type 0
AfterSet old new k w = (q : ℕ) → chain_of new q ≡ (if eqb k q then w else chain_of old q)

not_before_tail : (x : ℕ × ChainState) (l : Rows) (k i : ℕ) → NotBefore (x ∷ l) k (suc i) → NotBefore l k i
not_before_tail x l k i lacks j lt = lacks (suc j) (omega arith)

is_at_tail : (x : ℕ × ChainState) (l : Rows) (k i : ℕ) → IsAt (x ∷ l) k (suc i) → IsAt l k i
is_at_tail x l k i stands = record { in_range = omega (arith, stands.in_range); has_number = stands.has_number }

pub absent : (l : Rows) (k : ℕ) → NotBefore l k (length l) → chain_of l k ≡ None
absent [] k lacks = refl
absent (x ∷ l) k lacks = grind (arith, nat_tests, lacks 0 (omega arith), absent l k (not_before_tail x l k _ lacks))

pub present : (l : Rows) (k i : ℕ) → IsAt l k i → NotBefore l k i → chain_of l k ≡ Some (get_or l i (0, no_chain)).1
present [] k i stands lacks = absurd (omega (arith, stands.in_range))
present (x ∷ l) k zero stands lacks = grind (arith, nat_tests, stands.has_number)
present (x ∷ l) k (suc i) stands lacks = grind (arith, nat_tests, lacks 0 (omega arith), present l k i (is_at_tail x l k i stands) (not_before_tail x l k i lacks))

pub after_set : (l : Rows) (k i : ℕ) (w : ChainState) → IsAt l k i → NotBefore l k i → AfterSet l (set l i (k, w)) k (Some w)
after_set [] k i w stands lacks q = absurd (omega (arith, stands.in_range))
after_set (x ∷ l) k zero w stands lacks q = grind (arith, nat_tests, stands.has_number)
after_set (x ∷ l) k (suc i) w stands lacks q = grind (arith, nat_tests, lacks 0 (omega arith), after_set l k i w (is_at_tail x l k i stands) (not_before_tail x l k i lacks) q)

pub after_insert : (l : Rows) (k i : ℕ) (w : ChainState) → NotBefore l k i → AfterSet l (insert l i (k, w)) k (Some w)
after_insert l k zero w lacks q = refl
after_insert [] k (suc i) w lacks q = refl
after_insert (x ∷ l) k (suc i) w lacks q = grind (arith, nat_tests, lacks 0 (omega arith), after_insert l k i w (not_before_tail x l k i lacks) q)

abbrev pub NotBehind : Rows → ℕ → ℕ → Type 0
NotBehind l k i = (j : ℕ) → i < j → j < length l → number_at l j ≢ k

not_behind_tail : (x : ℕ × ChainState) (l : Rows) (k i : ℕ) → NotBehind (x ∷ l) k (suc i) → NotBehind l k i
not_behind_tail x l k i lacks j lt below = lacks (suc j) (omega arith) (omega arith)

not_in_tail : (x : ℕ × ChainState) (l : Rows) (k : ℕ) → NotBehind (x ∷ l) k 0 → NotBefore l k (length l)
not_in_tail x l k lacks j lt = lacks (suc j) (omega arith) (omega arith)

pub after_remove : (l : Rows) (k i : ℕ) → IsAt l k i → NotBefore l k i → NotBehind l k i → AfterSet l (remove l i) k None
after_remove [] k i stands lacks behind q = absurd (omega (arith, stands.in_range))
after_remove (x ∷ l) k zero stands lacks behind q = grind (arith, nat_tests, stands.has_number, absent l k (not_in_tail x l k behind))
after_remove (x ∷ l) k (suc i) stands lacks behind q = grind (arith, nat_tests, lacks 0 (omega arith), after_remove l k i (is_at_tail x l k i stands) (not_before_tail x l k i lacks) (not_behind_tail x l k i behind) q)

module _ (l : Rows) (rising : AreRising l) (k : ℕ) where
  comparisons_rise : IsNonDecreasingBy (λ row. ordering_index (nat_cmp row.0 k)) l
  comparisons_rise = IsNonDecreasingBy-from_default (λ row. ordering_index (nat_cmp row.0 k)) l (0, no_chain) (λ i j le in_range.
      let numbers_rise : number_at l i ≤ number_at l j = grind (arith, rising i j, λ (same : i ≡ j). ap (number_at l) same) in
      grind (arith, nat_tests))

  -- a binary search ends at the number, or at the gap for it
  pub searched : (r : Result ℕ ℕ) → IsSearchInRange r (length l) → IsBinarySearchResult (λ row. nat_cmp row.0 k) l r → record { found : IfOk r (IsAt l k); absent : IfErr r (IsGapFor l k) }
  searched (Ok at) in_range equal = record { found = record { in_range = in_range; has_number = ranked _ k _ (sym (equal (0, no_chain))) }; absent = tt }
  searched (Err at) in_range parted = record {
    found = tt;
    absent = record {
      in_range = in_range;
      smaller_before = λ j lt. ranked _ k _ (sym ((parted comparisons_rise).0 j (0, no_chain) (omega arith) lt));
      greater_after = λ j le lt. ranked _ k _ (sym ((parted comparisons_rise).1 j (0, no_chain) le lt));
    };
  }

module _ (l : Rows) (rising : AreRising l) (k at : ℕ) (stands : IsAt l k at) where
  not_before : NotBefore l k at
  not_before j lt same = omega (arith, rising j at lt stands.in_range, stands.has_number)

  not_behind : NotBehind l k at
  not_behind j lt below same = omega (arith, rising at j lt below, stands.has_number)

  pub chain_at : chain_of l k ≡ Some (get_or l at (0, no_chain)).1
  chain_at = present l k at stands not_before

  pub set_after : (w : ChainState) → AfterSet l (set l at (k, w)) k (Some w)
  set_after w = after_set l k at w stands not_before

  pub remove_after : AfterSet l (remove l at) k None
  remove_after = after_remove l k at stands not_before not_behind

  -- the numbers still rise
  pub rising_set : (w : ChainState) → AreRising (set l at (k, w))
  rising_set w i j lt in_range = grind (arith, common_steps, rising i j, rising i at, rising at j, stands.in_range, stands.has_number)

  pub rising_remove : AreRising (remove l at)
  rising_remove i j lt in_range =
      let new = remove l at in
      let number = λ (x : ℕ × ChainState). x.0 in
      let below : (i : ℕ) → i < at → number_at new i ≡ number_at l i = λ i lt. ap number (get_or-remove_below l at (0, no_chain) i lt stands.in_range) in
      let above : (i : ℕ) → at ≤ i → number_at new i ≡ number_at l (i + 1) = λ i le. ap number (get_or-remove_above l at (0, no_chain) i le stands.in_range) in
      let shorter = length-remove l at stands.in_range in
      grind (arith, below i, above i, below j, above j, rising i j, rising i (j + 1), rising (i + 1) (j + 1))

module _ (l : Rows) (k at : ℕ) (gap : IsGapFor l k at) where
  pub none_in_gap : chain_of l k ≡ None
  none_in_gap = absent l k (λ j lt same. grind (arith, gap.smaller_before j, gap.greater_after j))

  pub insert_after : (w : ChainState) → AfterSet l (insert l at (k, w)) k (Some w)
  insert_after w = after_insert l k at w (λ j lt same. omega (arith, gap.smaller_before j lt))

  pub rising_insert : (w : ChainState) → AreRising l → AreRising (insert l at (k, w))
  rising_insert w rising i j lt in_range =
      let new = insert l at (k, w) in
      let number = λ (x : ℕ × ChainState). x.0 in
      let length_new = length-insert l at (k, w) gap.in_range in
      let below : (i : ℕ) → i < at → number_at new i ≡ number_at l i = λ i below. ap number (get_or-insert_below l at (k, w) (0, no_chain) i below gap.in_range) in
      let here : (i : ℕ) → i ≡ at → number_at new i ≡ k = λ i here. rw here (ap number (get_or-insert_at l at (k, w) (0, no_chain) gap.in_range)) in
      let above : (i : ℕ) → at < i → number_at new i ≡ number_at l (i - 1) = λ i above. subst (λ q. number_at new q ≡ number_at l (i - 1)) {x = i - 1 + 1} (omega arith) (ap number (get_or-insert_above l at (k, w) (0, no_chain) (i - 1) (omega arith) gap.in_range)) in
      grind (arith, below i, here i, above i, below j, here j, above j, rising i j, rising i (j - 1), rising (i - 1) (j - 1), gap.smaller_before i, gap.greater_after (j - 1))

-- Rows as a finite map: what is at a number is the chain of its row
pub looked : (l : Rows) (q : ℕ) → lookup (is_at (nat_cmp q)) l ≡ chain_of l q
looked [] q = refl
looked (x ∷ l) q = grind (arith, nat_tests, looked l q)

pub found : (l : Rows) (q : ℕ) → fin.get (fin.from_entries {R = nat_cmp} l) q ≡ chain_of l q
found l q = get_made nat_keys l q ∙ looked l q

told_apart : (k q : ℕ) (w o : Option ChainState) → (if eqb k q then w else o) ≡ cond (is_at (nat_cmp k) q) w o
told_apart k q w o = grind (arith, nat_tests)

-- rows that differ at one number make maps that differ there
pub after : (old new : Rows) (k : ℕ) (w : Option ChainState) → AfterSet old new k w → fin.from_entries {R = nat_cmp} new ≡ with_at (fin.from_entries old) k w
after old new k w h = made nat_keys old new k w (λ q. looked new q ∙ h q ∙ ap (λ o. if eqb k q then w else o) (sym (looked old q)) ∙ told_apart k q w (lookup (is_at (nat_cmp q)) old))

-- rows by rising number are sorted
number_of_keys : (l : Rows) (i : ℕ) → get_or (keys_of l) i 0 ≡ number_at l i
number_of_keys [] i = refl
number_of_keys (x ∷ l) zero = refl
number_of_keys (x ∷ l) (suc i) = number_of_keys l i

-- rows by rising number are sorted
pub sorted : (l : Rows) → AreRising l → IsStrictlySortedBy nat_cmp (keys_of l)
sorted l rising = sorted_from_strictly_increasing (keys_of l) (λ i below.
    let same : length (keys_of l) ≡ length l = length-map l (λ e. e.0) in
    let a = number_of_keys l i in
    let b = number_of_keys l (i + 1) in
    let up = rising i (i + 1) (omega arith) (omega arith) in
    grind (arith, a, b, up))

-- What the program's edits make of the map, where `s` is the slice that was searched.
row_there : (l : Rows) (at : ℕ) (x : ℕ × ChainState) → at < length l → x ≡ get_or l at x → x ≡ get_or l at (0, no_chain)
row_there l at x within h = h ∙ get_or_default l at x (0, no_chain) within

module _ (s l : Rows) (same : s ≡ l) (t : Table) (is : fin.from_entries l ≡ t) (k at : ℕ) where
  there : IsAt s k at → IsAt l k at
  there stands = subst (λ r. IsAt r k at) same stands

  gap_there : IsGapFor s k at → IsGapFor l k at
  gap_there gap = subst (λ r. IsGapFor r k at) same gap

  -- what is read
  pub read_at : AreRising l → IsAt s k at → (x : ℕ × ChainState) → x ≡ get_or l at x → Some x.1 ≡ fin.get t k
  read_at rising stands x h =
      ap (λ y. Some y.1) (row_there l at x (there stands).in_range h) ∙ sym (chain_at l rising k at (there stands)) ∙ sym (found l k) ∙ ap (λ m. fin.get m k) is

  pub read_gap : IsGapFor s k at → fin.get t k ≡ None
  read_gap gap = ap (λ m. fin.get m k) (sym is) ∙ found l k ∙ none_in_gap l k at (gap_there gap)

  -- a row is altered
  pub altered_gap : IsGapFor s k at → (f : ChainState → ChainState) → t ≡ altered t k f
  altered_gap gap f = ap (altered_from t k f) (sym (read_gap gap))

  pub put_at : AreRising l → IsAt s k at → (w : ChainState) → fin.from_entries (set l at (k, w)) ≡ fin.insert t k w
  put_at rising stands w = after l (set l at (k, w)) k (Some w) (set_after l rising k at (there stands) w) ∙ ap (λ m. fin.insert m k w) is

  pub altered_at : AreRising l → IsAt s k at → (x : ℕ × ChainState) → x ≡ get_or l at x → (f : ChainState → ChainState) → fin.from_entries (set l at (x.0, f x.1)) ≡ altered t k f
  altered_at rising stands x h f =
      ap (λ n. fin.from_entries {R = nat_cmp} (set l at (n, f x.1))) (ap (λ y. y.0) (row_there l at x (there stands).in_range h) ∙ (there stands).has_number)
      ∙ put_at rising stands (f x.1) ∙ ap (altered_from t k f) (read_at rising stands x h)

  -- a row is added
  pub put_gap : IsGapFor s k at → (w : ChainState) → fin.from_entries (insert l at (k, w)) ≡ fin.insert t k w
  put_gap gap w = after l (insert l at (k, w)) k (Some w) (insert_after l k at (gap_there gap) w) ∙ ap (λ m. fin.insert m k w) is

  -- a row is removed
  pub out_at : AreRising l → IsAt s k at → fin.from_entries (remove l at) ≡ fin.remove t k
  out_at rising stands = after l (remove l at) k None (remove_after l rising k at (there stands)) ∙ ap (λ m. fin.remove m k) is

  pub out_gap : IsGapFor s k at → t ≡ fin.remove t k
  out_gap gap = sym (remove_absent nat_keys t k (read_gap gap))

  -- the numbers still rise
  pub rising_at : AreRising l → IsAt s k at → (x : ℕ × ChainState) → x ≡ get_or l at x → (w : ChainState) → AreRising (set l at (x.0, w))
  rising_at rising stands x h w =
      subst (λ n. AreRising (set l at (n, w))) (sym (ap (λ y. y.0) (row_there l at x (there stands).in_range h) ∙ (there stands).has_number)) (rising_set l rising k at (there stands) w)

  -- the numbers still rise behind a row that is added
  pub rising_gap : AreRising l → IsGapFor s k at → (w : ChainState) → AreRising (insert l at (k, w))
  rising_gap rising gap w = rising_insert l k at (gap_there gap) w rising
