-- Blocks in their order, and the packets in them by number.
use Rattle.std.proofs.Common.{◌≡◌, ℕ, zero, suc, ◌+◌, ◌-◌, ◌≤◌, ◌<◌, List, [], ◌∷◌, ◌++◌, length, Option, Some, None, slice_set, slice_get, get_or, refl, ap, sym, ◌∙◌, subst, arith, length-append}
use Rattle.std.proofs.lemmas.List.{append-nil, append_assoc}
use Rattle.std.proofs.lemmas.Option.{same_Some, none-some, slice_get_read}
use Rattle.world_mail.specs.declared.block.Block.{Block}
use Rattle.world_mail.specs.Sent.{marked, front_of}
use Rattle.world_mail.specs.Blocks.{AreNumbered, sent_in}
use Rattle.world_mail.proofs.Marking.{marked_left, marked_right, length_marked, front_marked}

-- ---- numbers

-- no block begins before the first
pub first_least : (k : ℕ) (blocks : List Block) → AreNumbered k blocks → (i : ℕ) (b : Block) → slice_get blocks i ≡ Some b → k ≤ b.first
first_least k [] are i b is = absurd (none-some b is)
first_least k (x ∷ blocks) are zero b is = let e : x.first ≡ b.first = ap (λ (y : Block). y.first) (same_Some x b is) in omega (arith, are.0, e)
first_least k (x ∷ blocks) are (suc i) b is = let later = first_least (k + length x.sent.items) blocks are.1 i b is in omega (arith, later)

length_same : (x b : Block) → x ≡ b → length x.sent.items ≡ length b.sent.items
length_same x b is = ap (λ (y : Block). length y.sent.items) is

-- a block begins where the one before it ends
pub next_first : (k : ℕ) (blocks : List Block) → AreNumbered k blocks → (i : ℕ) (b c : Block) → slice_get blocks i ≡ Some b → slice_get blocks (suc i) ≡ Some c → c.first ≡ b.first + length b.sent.items
next_first k [] are i b c is next = absurd (none-some b is)
next_first k (x ∷ []) are zero b c is next = absurd (none-some c next)
next_first k (x ∷ y ∷ blocks) are zero b c is next =
    let e : x.first ≡ b.first = ap (λ (z : Block). z.first) (same_Some x b is) in
    let l = length_same x b (same_Some x b is) in
    let f : y.first ≡ c.first = ap (λ (z : Block). z.first) (same_Some y c next) in
    omega (arith, are.0, are.1.0, e, l, f)
next_first k (x ∷ blocks) are (suc i) b c is next = next_first (k + length x.sent.items) blocks are.1 i b c is next

-- and the packets end with the last one
pub last_end : (k : ℕ) (blocks : List Block) → AreNumbered k blocks → (i : ℕ) (b : Block) → slice_get blocks i ≡ Some b → suc i ≡ length blocks → k + length (sent_in blocks) ≡ b.first + length b.sent.items
last_end k [] are i b is last = absurd (none-some b is)
last_end k (x ∷ []) are zero b is last =
    let e : x.first ≡ b.first = ap (λ (z : Block). z.first) (same_Some x b is) in
    let l = length_same x b (same_Some x b is) in
    let n : length (x.sent.items ++ []) ≡ length x.sent.items = ap length (append-nil x.sent.items) in
    omega (arith, are.0, e, l, n)
last_end k (x ∷ y ∷ blocks) are zero b is last = absurd (omega (arith, last))
last_end k (x ∷ blocks) are (suc i) b is last =
    let later = last_end (k + length x.sent.items) blocks are.1 i b is (omega (arith, last)) in
    let n = length-append x.sent.items (sent_in blocks) in
    omega (arith, later, n)

-- ---- the block that has a packet

-- the block at that place, if there is one, begins behind that number
abbrev pub BeginsBehind : List Block → ℕ → ℕ → Type 0
BeginsBehind blocks i number = (c : Block) → slice_get blocks i ≡ Some c → number < c.first

abbrev pub BeginsBefore : List Block → ℕ → ℕ → Type 0
BeginsBefore blocks i number = (b : Block) → slice_get blocks i ≡ Some b → b.first ≤ number

pub first_before : (blocks : List Block) (number : ℕ) → AreNumbered 0 blocks → BeginsBefore blocks 0 number
first_before [] number are b is = absurd (none-some b is)
first_before (x ∷ blocks) number are b is = let e : x.first ≡ b.first = ap (λ (z : Block). z.first) (same_Some x b is) in omega (arith, are.0, e)

pub some_block : (blocks : List Block) (number : ℕ) → number < length (sent_in blocks) → 0 < length blocks
some_block [] number below = absurd (omega (arith, below))
some_block (x ∷ blocks) number below = omega arith

get_there : {A : Type 0} (xs : List A) (i : ℕ) → i < length xs → (x : A) × (slice_get xs i ≡ Some x)
get_there [] i below = absurd (omega (arith, below))
get_there (x ∷ xs) zero below = (x, refl)
get_there (x ∷ xs) (suc i) below = get_there xs i (omega (arith, below))

get_past : {A : Type 0} (xs : List A) (i : ℕ) → length xs ≤ i → slice_get xs i ≡ None
get_past [] i all = refl
get_past (x ∷ xs) zero all = absurd (omega (arith, all))
get_past (x ∷ xs) (suc i) all = get_past xs i (omega (arith, all))

pub none_behind : (blocks : List Block) (number : ℕ) → BeginsBehind blocks (length blocks) number
none_behind blocks number c is = absurd (let past : slice_get blocks (length blocks) ≡ None = get_past blocks (length blocks) (let n : length blocks ≤ length blocks = omega arith in n) in none-some c (sym past ∙ is))

-- behind the last one there is none
last_only : {A : Type 0} (xs : List A) (i : ℕ) (x : A) → slice_get xs i ≡ Some x → slice_get xs (suc i) ≡ None → suc i ≡ length xs
last_only [] i x is none = absurd (none-some x is)
last_only (y ∷ []) zero x is none = refl
last_only (y ∷ z ∷ xs) zero x is none = absurd (none-some z (sym none))
last_only (y ∷ xs) (suc i) x is none = ap suc (last_only xs i x is none)

-- either the next block begins behind it, or there is none
ends_by : (blocks : List Block) (number i : ℕ) (b : Block) → AreNumbered 0 blocks → number < length (sent_in blocks) → slice_get blocks i ≡ Some b → BeginsBehind blocks (suc i) number
    → (next : Option Block) → slice_get blocks (suc i) ≡ next → number < b.first + length b.sent.items
ends_by blocks number i b are below is behind (Some c) there =
    let e = next_first 0 blocks are i b c is there in
    let n = behind c there in
    omega (arith, e, n)
ends_by blocks number i b are below is behind None there = let e = last_end 0 blocks are i b is (last_only blocks i b is there) in omega (arith, e, below)

pub block_ends : (blocks : List Block) (number i j : ℕ) (b : Block) → AreNumbered 0 blocks → number < length (sent_in blocks) → slice_get blocks i ≡ Some b → BeginsBehind blocks j number → j ≡ suc i
    → number < b.first + length b.sent.items
block_ends blocks number i j b are below is behind next = ends_by blocks number i b are below is (subst (λ n. BeginsBehind blocks n number) next behind) (slice_get blocks (suc i)) refl

-- ---- the packet in it

get_left : {A : Type 0} (xs ys : List A) (k : ℕ) → k < length xs → slice_get (xs ++ ys) k ≡ slice_get xs k
get_left [] ys k below = absurd (omega (arith, below))
get_left (x ∷ xs) ys zero below = refl
get_left (x ∷ xs) ys (suc k) below = get_left xs ys k (omega (arith, below))

get_right : {A : Type 0} (xs ys : List A) (k n : ℕ) → n ≡ length xs + k → slice_get (xs ++ ys) n ≡ slice_get ys k
get_right [] ys k n is = ap (slice_get ys) (let e : n ≡ k = omega (arith, is) in e)
get_right (x ∷ xs) ys k zero is = absurd (omega (arith, is))
get_right (x ∷ xs) ys k (suc n) is = get_right xs ys k n (omega (arith, is))

-- the packet of a number is the one at its place in its block
sent_from : (k : ℕ) (blocks : List Block) → AreNumbered k blocks → (i : ℕ) (b : Block) → slice_get blocks i ≡ Some b → (n m : ℕ) → k + n ≡ b.first + m → m < length b.sent.items
    → slice_get (sent_in blocks) n ≡ slice_get b.sent.items m
sent_from k [] are i b is n m same below = absurd (none-some b is)
sent_from k (x ∷ blocks) are zero b is n m same below =
    let f : x.first ≡ b.first = ap (λ (z : Block). z.first) (same_Some x b is) in
    let l = length_same x b (same_Some x b is) in
    let e : n ≡ m = omega (arith, are.0, f, same) in
    get_left x.sent.items (sent_in blocks) n (omega (arith, e, l, below)) ∙ ap (slice_get x.sent.items) e ∙ ap (λ (z : Block). slice_get z.sent.items m) (same_Some x b is)
sent_from k (x ∷ blocks) are (suc i) b is n m same below =
    let least = first_least (k + length x.sent.items) blocks are.1 i b is in
    let n' : n ≡ length x.sent.items + (n - length x.sent.items) = omega (arith, least, same) in
    let same' : (k + length x.sent.items) + (n - length x.sent.items) ≡ b.first + m = omega (arith, least, same) in
    get_right x.sent.items (sent_in blocks) (n - length x.sent.items) n n' ∙ sent_from (k + length x.sent.items) blocks are.1 i b is (n - length x.sent.items) m same' below

pub sent_there : (blocks : List Block) (i number : ℕ) (b : Block) → AreNumbered 0 blocks → slice_get blocks i ≡ Some b → b.first ≤ number → number < b.first + length b.sent.items
    → slice_get (sent_in blocks) number ≡ slice_get b.sent.items (number - b.first)
sent_there blocks i number b are is from below = sent_from 0 blocks are i b is number (number - b.first) (omega (arith, from)) (omega (arith, from, below))

-- ---- one block more

pub sent_more : (blocks : List Block) (b : Block) → sent_in (blocks ++ b ∷ []) ≡ sent_in blocks ++ b.sent.items
sent_more [] b = append-nil b.sent.items
sent_more (x ∷ blocks) b = ap (λ r. x.sent.items ++ r) (sent_more blocks b) ∙ sym (append_assoc x.sent.items (sent_in blocks) b.sent.items)

pub numbered_more : (k : ℕ) (blocks : List Block) (b : Block) → AreNumbered k blocks → b.first ≡ k + length (sent_in blocks) → AreNumbered k (blocks ++ b ∷ [])
numbered_more k [] b are first = (omega (arith, first), tt)
numbered_more k (x ∷ blocks) b are first =
    let n = length-append x.sent.items (sent_in blocks) in
    (are.0, numbered_more (k + length x.sent.items) blocks b are.1 (omega (arith, n, first)))

-- ---- one packet marked

-- a block in another's place, with as many packets
pub record IsMarked (b c : Block) (m : ℕ) : Type 0 where
  pub first : c.first ≡ b.first
  pub sent : c.sent.items ≡ marked b.sent.items m

as_long : (b c : Block) (m : ℕ) → IsMarked b c m → length c.sent.items ≡ length b.sent.items
as_long b c m is = ap length is.sent ∙ length_marked b.sent.items m

pub numbered_marked : (k : ℕ) (blocks : List Block) → AreNumbered k blocks → (i : ℕ) (b c : Block) (m : ℕ) → slice_get blocks i ≡ Some b → IsMarked b c m → AreNumbered k (slice_set blocks i c)
numbered_marked k [] are i b c m is marks = absurd (none-some b is)
numbered_marked k (x ∷ blocks) are zero b c m is marks =
    let f : x.first ≡ b.first = ap (λ (z : Block). z.first) (same_Some x b is) in
    let l : length x.sent.items ≡ length c.sent.items = length_same x b (same_Some x b is) ∙ sym (as_long b c m marks) in
    (marks.first ∙ sym f ∙ are.0, subst (λ n. AreNumbered (k + n) blocks) l are.1)
numbered_marked k (x ∷ blocks) are (suc i) b c m is marks = (are.0, numbered_marked (k + length x.sent.items) blocks are.1 i b c m is marks)

sent_marked_from : (k : ℕ) (blocks : List Block) → AreNumbered k blocks → (i : ℕ) (b c : Block) (m n : ℕ) → slice_get blocks i ≡ Some b → IsMarked b c m → k + n ≡ b.first + m → m < length b.sent.items
    → sent_in (slice_set blocks i c) ≡ marked (sent_in blocks) n
sent_marked_from k [] are i b c m n is marks same below = absurd (none-some b is)
sent_marked_from k (x ∷ blocks) are zero b c m n is marks same below =
    let f : x.first ≡ b.first = ap (λ (z : Block). z.first) (same_Some x b is) in
    let l = length_same x b (same_Some x b is) in
    let e : m ≡ n = omega (arith, are.0, f, same) in
    let items : c.sent.items ≡ marked x.sent.items n = marks.sent ∙ ap (λ (z : Block). marked z.sent.items m) (sym (same_Some x b is)) ∙ ap (marked x.sent.items) e in
    ap (λ r. r ++ sent_in blocks) items ∙ sym (marked_left x.sent.items (sent_in blocks) n (omega (arith, e, l, below)))
sent_marked_from k (x ∷ blocks) are (suc i) b c m n is marks same below =
    let least = first_least (k + length x.sent.items) blocks are.1 i b is in
    let n' : n ≡ length x.sent.items + (n - length x.sent.items) = omega (arith, least, same) in
    let same' : (k + length x.sent.items) + (n - length x.sent.items) ≡ b.first + m = omega (arith, least, same) in
    ap (λ r. x.sent.items ++ r) (sent_marked_from (k + length x.sent.items) blocks are.1 i b c m (n - length x.sent.items) is marks same' below)
    ∙ sym (marked_right x.sent.items (sent_in blocks) (n - length x.sent.items) n n')

pub sent_marked : (blocks : List Block) (i number : ℕ) (b c : Block) → AreNumbered 0 blocks → slice_get blocks i ≡ Some b → IsMarked b c (number - b.first) → b.first ≤ number → number < b.first + length b.sent.items
    → sent_in (slice_set blocks i c) ≡ marked (sent_in blocks) number
sent_marked blocks i number b c are is marks from below = sent_marked_from 0 blocks are i b c (number - b.first) number is marks (omega (arith, from)) (omega (arith, from, below))

-- ---- the search by halves

pub before_at : (blocks : List Block) (number i : ℕ) (b : Block) → slice_get blocks i ≡ Some b → b.first ≤ number → BeginsBefore blocks i number
before_at blocks number i b is from c there = let e : b.first ≡ c.first = ap (λ (z : Block). z.first) (same_Some b c (sym is ∙ there)) in omega (arith, e, from)

pub behind_at : (blocks : List Block) (number i : ℕ) (b : Block) → slice_get blocks i ≡ Some b → number < b.first → BeginsBehind blocks i number
behind_at blocks number i b is behind c there = let e : b.first ≡ c.first = ap (λ (z : Block). z.first) (same_Some b c (sym is ∙ there)) in omega (arith, e, behind)

-- what the search knows: the packet's block stands from `low` on, and before `high`
pub record IsBetween (blocks : List Block) (number low high : ℕ) : Type 0 where
  pub some : low < high
  pub within : high ≤ length blocks
  pub before : BeginsBefore blocks low number
  pub behind : BeginsBehind blocks high number

pub between_first : (blocks : List Block) (number : ℕ) → AreNumbered 0 blocks → number < length (sent_in blocks) → IsBetween blocks number 0 (length blocks)
between_first blocks number are below = record {
  some = some_block blocks number below;
  within = (let n : length blocks ≤ length blocks = omega arith in n);
  before = first_before blocks number are;
  behind = none_behind blocks number;
}

pub found_by : (blocks : List Block) (number low high : ℕ) → AreNumbered 0 blocks → number < length (sent_in blocks) → IsBetween blocks number low high → high - low ≤ 1
    → (b : Block) → slice_get blocks low ≡ Some b → (b.first ≤ number) × (number < b.first + length b.sent.items)
found_by blocks number low high are below is end b there = (is.before b there, block_ends blocks number low high b are below there is.behind (omega (arith, end, is.some)))

-- ---- what a mark leaves

pub record HasMark (before behind : List Block) (number : ℕ) : Type 0 where
  pub numbered : AreNumbered 0 behind
  pub sent : sent_in behind ≡ marked (sent_in before) number

pub has_mark : (blocks slice : List Block) (i number : ℕ) (b c : Block) → AreNumbered 0 blocks → slice ≡ blocks → i < length slice
    → ((x : Block) → slice_get slice i ≡ Some x → (x.first ≤ number) × (number < x.first + length x.sent.items)) → b ≡ get_or blocks i b
    → c.first ≡ b.first → c.sent.items ≡ marked b.sent.items (number - b.first) → HasMark blocks (slice_set blocks i c) number
has_mark blocks slice i number b c are same there has is first sent =
    let marks : IsMarked b c (number - b.first) = record { first = first; sent = sent } in
    let at : slice_get blocks i ≡ Some b = slice_get_read blocks (length blocks) i b refl (subst (λ bs. i < length bs) same there) is in
    let within = has b (ap (λ bs. slice_get bs i) same ∙ at) in
    record {
      numbered = numbered_marked 0 blocks are i b c (number - b.first) at marks;
      sent = sent_marked blocks i number b c are at marks within.0 within.1;
    }

pub as_many : (before behind : List Block) (number : ℕ) → HasMark before behind number → length (sent_in behind) ≡ length (sent_in before)
as_many before behind number is = ap length is.sent ∙ length_marked (sent_in before) number

pub front_at_least : (before behind : List Block) (number : ℕ) → HasMark before behind number → front_of (sent_in before) ≤ front_of (sent_in behind)
front_at_least before behind number is = subst (λ sent. front_of (sent_in before) ≤ front_of sent) (sym is.sent) (front_marked (sent_in before) number)
