-- One disk more is kept by its name.
use Rattle.std.proofs.Common.{◌≡◌, ◌≢◌, ℕ, Bool, true, false, List, [], ◌∷◌, ◌++◌, Option, Some, None, refl, sym, ◌∙◌, ap, inl, inr, arith}
use Rattle.std.specs.Prelude.{if◌then◌else◌, cond, not}
use Rattle.std.specs.List.{filter}
use Rattle.std.proofs.lemmas.Bool.{cases_eq}
use Rattle.std.proofs.lemmas.Bool.Decides.{nat_tests}
use Rattle.disk_model.specs.Kept.{kept_at, is_named, or_else}
use Rattle.disk_model.specs.declared.rack.DiskName.{DiskName}
use Rattle.disk_model.specs.declared.mem_rack.Kept.{Kept}

-- a name is its own name
pub named_self : (a : DiskName) → is_named a a ≡ true
named_self a = grind (arith, nat_tests)

-- a name that is another isn't this one
pub named_apart : (a b : DiskName) → b ≢ a → is_named a b ≡ false
named_apart a b apart = elim (cases_eq a.node b.node) [
  | inr other ↦ grind (arith, nat_tests)
  | inl node ↦ elim (cases_eq a.part b.part) [
    | inr other ↦ grind (arith, nat_tests)
    | inl part ↦ elim (cases_eq a.peer b.peer) [
      | inr other ↦ grind (arith, nat_tests)
      | inl peer ↦ absurd (apart (sym (λ i. record { node = node i; part = part i; peer = peer i })))
    ]
  ]
]

or_else_assoc : (a b c : Option (List ℕ)) → or_else (or_else a b) c ≡ or_else a (or_else b c)
or_else_assoc (Some x) b c = refl
or_else_assoc None b c = refl

or_else_none : (a : Option (List ℕ)) → or_else a None ≡ a
or_else_none (Some x) = refl
or_else_none None = refl

kept_push : (kept : List Kept) (one : Kept) (name : DiskName) → kept_at (kept ++ one ∷ []) name ≡ or_else (if is_named one.name name then Some one.disk.bytes.items else None) (kept_at kept name)
kept_push [] one name = sym (or_else_none (if is_named one.name name then Some one.disk.bytes.items else None))
kept_push (first ∷ kept) one name =
    ap (λ (found : Option (List ℕ)). or_else found (if is_named first.name name then Some first.disk.bytes.items else None)) (kept_push kept one name)
    ∙ or_else_assoc (if is_named one.name name then Some one.disk.bytes.items else None) (kept_at kept name) (if is_named first.name name then Some first.disk.bytes.items else None)

-- what was kept last by a name is what it keeps
pub kept_here : (kept : List Kept) (one : Kept) → kept_at (kept ++ one ∷ []) one.name ≡ Some one.disk.bytes.items
kept_here kept one = kept_push kept one one.name ∙ ap (λ (b : Bool). or_else (if b then Some one.disk.bytes.items else None) (kept_at kept one.name)) (named_self one.name)

-- what other names keep stays
pub kept_elsewhere : (kept : List Kept) (one : Kept) (name : DiskName) → name ≢ one.name → kept_at (kept ++ one ∷ []) name ≡ kept_at kept name
kept_elsewhere kept one name apart = kept_push kept one name ∙ ap (λ (b : Bool). or_else (if b then Some one.disk.bytes.items else None) (kept_at kept name)) (named_apart one.name name apart)

named_same : (a b : DiskName) → is_named a b ≡ true → a ≡ b
named_same a b same = elim (cases_eq a.node b.node) [
  | inr other ↦ let no : is_named a b ≡ false = grind (arith, nat_tests) in cc
  | inl node ↦ elim (cases_eq a.part b.part) [
    | inr other ↦ let no : is_named a b ≡ false = grind (arith, nat_tests) in cc
    | inl part ↦ elim (cases_eq a.peer b.peer) [
      | inr other ↦ let no : is_named a b ≡ false = grind (arith, nat_tests) in cc
      | inl peer ↦ λ i. record { node = node i; part = part i; peer = peer i }
    ]
  ]
]

-- the kept disks of other names
abbrev pub others : DiskName → List Kept → List Kept
others name = filter (λ (one : Kept). not (is_named one.name name))

forget_here : (b : Bool) (one : Kept) (rest : List Kept) (name : DiskName) → is_named one.name name ≡ b → kept_at rest name ≡ None → kept_at (cond (not (is_named one.name name)) (one ∷ rest) rest) name ≡ None
forget_here true one rest name is none = ap (λ (b : Bool). kept_at (cond (not b) (one ∷ rest) rest) name) is ∙ none
forget_here false one rest name is none =
    ap (λ (b : Bool). kept_at (cond (not b) (one ∷ rest) rest) name) is
    ∙ ap (λ (found : Option (List ℕ)). or_else found (if is_named one.name name then Some one.disk.bytes.items else None)) none
    ∙ ap (λ (b : Bool). if b then Some one.disk.bytes.items else None) is

-- a name whose disks are no longer kept
pub forgotten_here : (kept : List Kept) (name : DiskName) → kept_at (others name kept) name ≡ None
forgotten_here [] name = refl
forgotten_here (one ∷ later) name = forget_here (is_named one.name name) one (others name later) name refl (forgotten_here later name)

forget_elsewhere : (b : Bool) (one : Kept) (rest later : List Kept) (name other : DiskName) → other ≢ name → is_named one.name name ≡ b → kept_at rest other ≡ kept_at later other
    → kept_at (cond (not (is_named one.name name)) (one ∷ rest) rest) other ≡ kept_at (one ∷ later) other
forget_elsewhere true one rest later name other apart is same =
    let no : is_named one.name other ≡ false = named_apart one.name other (λ equal. apart (equal ∙ named_same one.name name is)) in
    ap (λ (b : Bool). kept_at (cond (not b) (one ∷ rest) rest) other) is ∙ same
    ∙ sym (ap (λ (b : Bool). or_else (kept_at later other) (if b then Some one.disk.bytes.items else None)) no ∙ or_else_none (kept_at later other))
forget_elsewhere false one rest later name other apart is same =
    ap (λ (b : Bool). kept_at (cond (not b) (one ∷ rest) rest) other) is
    ∙ ap (λ (found : Option (List ℕ)). or_else found (if is_named one.name other then Some one.disk.bytes.items else None)) same

-- the other names keep theirs
pub forgotten_elsewhere : (kept : List Kept) (name other : DiskName) → other ≢ name → kept_at (others name kept) other ≡ kept_at kept other
forgotten_elsewhere [] name other apart = refl
forgotten_elsewhere (one ∷ later) name other apart =
    forget_elsewhere (is_named one.name name) one (others name later) later name other apart refl (forgotten_elsewhere later name other apart)
