-- Marks, and the packets at the front that are done.
use Rattle.std.proofs.Common.{◌≡◌, ℕ, zero, suc, ◌+◌, ◌≤◌, ◌<◌, List, [], ◌∷◌, ◌++◌, length, Option, Some, None, Bool, true, false, slice_set, slice_get, refl, ap, sym, ◌∙◌, subst, arith}
use Rattle.std.proofs.lemmas.Option.{same_Some, none-some}
use Rattle.world_mail.specs.declared.packets.Sent.{Sent}
use Rattle.world_mail.specs.Sent.{bytes_of, fresh, ended, marked, front_by, front_of, lowest_by, lowest_from, lowest}

-- a mark is a write at its place
pub set_marked : (sent : List Sent) (k : ℕ) (s : Sent) → slice_get sent k ≡ Some s → slice_set sent k (ended s) ≡ marked sent k
set_marked [] k s is = absurd (none-some s is)
set_marked (x ∷ sent) zero s is = ap (λ y. ended y ∷ sent) (sym (same_Some _ _ is))
set_marked (x ∷ sent) (suc k) s is = ap (λ r. x ∷ r) (set_marked sent k s is)

pub length_marked : (sent : List Sent) (k : ℕ) → length (marked sent k) ≡ length sent
length_marked [] k = refl
length_marked (s ∷ sent) zero = refl
length_marked (s ∷ sent) (suc k) = ap suc (length_marked sent k)

-- it is in the list that has its place
pub marked_left : (xs ys : List Sent) (k : ℕ) → k < length xs → marked (xs ++ ys) k ≡ marked xs k ++ ys
marked_left [] ys k below = absurd (omega (arith, below))
marked_left (x ∷ xs) ys zero below = refl
marked_left (x ∷ xs) ys (suc k) below = ap (λ r. x ∷ r) (marked_left xs ys k (omega (arith, below)))

pub marked_right : (xs ys : List Sent) (k n : ℕ) → n ≡ length xs + k → marked (xs ++ ys) n ≡ xs ++ marked ys k
marked_right [] ys k n is = ap (marked ys) (let e : n ≡ k = omega (arith, is) in e)
marked_right (x ∷ xs) ys k zero is = absurd (omega (arith, is))
marked_right (x ∷ xs) ys k (suc n) is = ap (λ r. x ∷ r) (marked_right xs ys k n (omega (arith, is)))

-- packets more, of which none is done, change nothing at the front
pub front_more : (sent : List Sent) (packets : List (List ℕ)) → front_of (sent ++ fresh packets) ≡ front_of sent
front_more [] [] = refl
front_more [] (p ∷ packets) = refl
front_more (s ∷ sent) packets = ap (front_by s.done) (front_more sent packets)

by_more : (b : Bool) (n m : ℕ) → n ≤ m → front_by b n ≤ front_by b m
by_more true n m below = omega (arith, below)
by_more false n m below = omega arith

by_done : (b : Bool) (n m : ℕ) → n ≤ m → front_by b n ≤ suc m
by_done true n m below = omega (arith, below)
by_done false n m below = omega arith

same_at_most : (n : ℕ) → n ≤ n
same_at_most n = omega arith

-- the front doesn't shrink
pub front_marked : (sent : List Sent) (k : ℕ) → front_of sent ≤ front_of (marked sent k)
front_marked [] k = omega arith
front_marked (s ∷ sent) zero = by_done s.done (front_of sent) (front_of sent) (same_at_most (front_of sent))
front_marked (s ∷ sent) (suc k) = by_more s.done (front_of sent) (front_of (marked sent k)) (front_marked sent k)

by_end : (b : Bool) (n m : ℕ) → n ≤ m → front_by b n ≤ suc m
by_end true n m below = omega (arith, below)
by_end false n m below = omega arith

pub front_end : (sent : List Sent) → front_of sent ≤ length sent
front_end [] = omega arith
front_end (s ∷ sent) = by_end s.done (front_of sent) (length sent) (front_end sent)

-- a place up to the front that is done is before it
step_by : (b : Bool) (k n : ℕ) → suc k ≤ front_by b n → (k ≤ n → suc k ≤ n) → suc (suc k) ≤ front_by b n
step_by true k n below later = let more : suc k ≤ n = later (omega (arith, below)) in omega (arith, more)
step_by false k n below later = absurd (omega (arith, below))

step_here : (b : Bool) (n : ℕ) → b ≡ true → 1 ≤ front_by b n
step_here b n is = subst (λ d. 1 ≤ front_by d n) (sym is) (let one : 1 ≤ suc n = omega arith in one)

pub front_step : (sent : List Sent) (k : ℕ) (s : Sent) → k ≤ front_of sent → slice_get sent k ≡ Some s → s.done ≡ true → suc k ≤ front_of sent
front_step [] k s below is done = absurd (none-some s is)
front_step (x ∷ sent) zero s below is done = step_here x.done (front_of sent) (ap (λ (y : Sent). y.done) (same_Some x s is) ∙ done)
front_step (x ∷ sent) (suc k) s below is done = step_by x.done k (front_of sent) below (λ b. front_step sent k s b is done)

-- one up to the front that isn't done is the front itself
here_by : (b : Bool) (k n : ℕ) → suc k ≤ front_by b n → (k ≤ n → k ≡ n) → suc k ≡ front_by b n
here_by true k n below later = ap suc (later (omega (arith, below)))
here_by false k n below later = absurd (omega (arith, below))

here_first : (b : Bool) (n : ℕ) → b ≡ false → 0 ≡ front_by b n
here_first b n is = subst (λ d. 0 ≡ front_by d n) (sym is) refl

pub front_here : (sent : List Sent) (k : ℕ) (s : Sent) → k ≤ front_of sent → slice_get sent k ≡ Some s → s.done ≡ false → k ≡ front_of sent
front_here [] k s below is free = absurd (none-some s is)
front_here (x ∷ sent) zero s below is free = here_first x.done (front_of sent) (ap (λ (y : Sent). y.done) (same_Some x s is) ∙ free)
front_here (x ∷ sent) (suc k) s below is free = here_by x.done k (front_of sent) below (λ b. front_here sent k s b is free)

-- the lowest that isn't done stands at the front
lowest_some : (b : Bool) (k n m : ℕ) (later : Option ℕ) → front_by b n < suc m → (n < m → later ≡ Some (suc k + n)) → lowest_by b k later ≡ Some (k + front_by b n)
lowest_some true k n m later below is = is (omega (arith, below)) ∙ ap Some (let e : suc k + n ≡ k + suc n = omega arith in e)
lowest_some false k n m later below is = ap Some (let e : k ≡ k + 0 = omega arith in e)

front_lowest : (k : ℕ) (sent : List Sent) → front_of sent < length sent → lowest_from k sent ≡ Some (k + front_of sent)
front_lowest k [] below = absurd (omega (arith, below))
front_lowest k (s ∷ sent) below = lowest_some s.done k (front_of sent) (length sent) (lowest_from (suc k) sent) below (front_lowest (suc k) sent)

pub lowest_at : (sent : List Sent) (n m : ℕ) → n ≡ front_of sent → m ≡ length sent → n < m → lowest sent ≡ Some n
lowest_at sent n m front len below = front_lowest 0 sent (omega (arith, front, len, below)) ∙ ap Some (let e : 0 + front_of sent ≡ n = omega (arith, front) in e)

lowest_none_by : (b : Bool) (k n m : ℕ) (later : Option ℕ) → suc m ≤ front_by b n → (m ≤ n → later ≡ None) → lowest_by b k later ≡ None
lowest_none_by true k n m later all is = is (omega (arith, all))
lowest_none_by false k n m later all is = absurd (omega (arith, all))

front_none : (k : ℕ) (sent : List Sent) → length sent ≤ front_of sent → lowest_from k sent ≡ None
front_none k [] all = refl
front_none k (s ∷ sent) all = lowest_none_by s.done k (front_of sent) (length sent) (lowest_from (suc k) sent) all (front_none (suc k) sent)

pub lowest_gone : (sent : List Sent) (n m : ℕ) → n ≡ front_of sent → m ≡ length sent → m ≤ n → lowest sent ≡ None
lowest_gone sent n m front len all = front_none 0 sent (omega (arith, front, len, all))

-- fresh packets are packets of their bytes
pub bytes_fresh : (packets : List (List ℕ)) → bytes_of (fresh packets) ≡ packets
bytes_fresh [] = refl
bytes_fresh (p ∷ packets) = ap (λ r. p ∷ r) (bytes_fresh packets)
