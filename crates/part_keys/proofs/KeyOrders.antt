-- The order of keys as bytes is the order of their fields.
use Rattle.std.proofs.Common.{◌≡◌, ℕ, ◌-◌, ◌^◌, ◌<◌, ◌≤◌, ℤ, neg_ℤ, List, [], ◌∷◌, ◌++◌, length, take, refl, sym, ap, subst, ◌∙◌, append_assoc, arith}
use Rattle.std.specs.declared.cmp.Ordering.{Ordering}
use Rattle.std.specs.declared.cmp.Ordering.TheVariants.{Less, Equal, Greater}
use Rattle.std.specs.Ordering.{int_cmp, nat_cmp, ordering_then}
use Rattle.std.specs.Cmp.{int_cmp_is}
use Rattle.std.specs.FinMap.{int_cmp-IsAntisymmetric}
use Rattle.std.specs.Int.{w32, w64}
use Rattle.std.proofs.lemmas.List.{append-nil, length-take}
use Rattle.byte_fields.specs.Fields.{number}
use Rattle.byte_fields.specs.Order.{bytes_cmp}
use Rattle.byte_fields.proofs.Orders.{cmp_equal, number_cmp, append_cmp, itself_cmp, then_assoc, then_equal}
use Rattle.graph_bytes.specs.Names.{IsName}
use Rattle.graph_model.specs.Names.{zeros}
use Rattle.graph_bytes.specs.Fits.{IsSmall}
use Rattle.graph_model.specs.Keys.{edge_cmp, in_cmp, in_key, tag_cmp, vid_cmp}
use Rattle.graph_model.specs.declared.edge_id.EdgeId.{EdgeId}
use Rattle.graph_model.specs.declared.name.Name as names
use Rattle.graph_model.specs.declared.vid.Vid.{Vid}
use Rattle.graph_model.specs.declared.vid.Vid.TheVariants as ids_of
use Rattle.part_keys.specs.declared.key.Key.{Key}
use Rattle.part_keys.specs.declared.key.Key.TheVariants.{Tag, OutEdge, InEdge, Prime, DoublePrime, Guard, Client}
use Rattle.part_keys.specs.declared.vid_kind.VidKind.{VidKind}
use Rattle.part_keys.specs.declared.vid_kind.VidKind.TheVariants as kinds
use Rattle.part_keys.specs.Keys.{flipped, vertex, edge_form, turned, key, IsKind, IsOf, FitsKey}
use Rattle.part_keys.specs.KeyOrder.{tag_at, key_cmp}
use Rattle.part_keys.proofs.Fillings.{name_again}
use Rattle.part_keys.proofs.FlippedOrders.{ordered32, ordered64, flipped_cmp}
use Rattle.part_keys.proofs.KeyFormats.{FitsForm, form_of_edge, form_of_turned, neg_neg}

-- ---- ids

-- texts in a field of at most so many bytes
text_cmp : (most : ℕ) → most ≤ 32 → (n m : names.Name) → IsName n → IsName m → n.len ≤ most → m.len ≤ most → bytes_cmp (take most n.bytes) (take most m.bytes) ≡ bytes_cmp n.bytes m.bytes
text_cmp most small n m n-is m-is n-short m-short =
    let z = zeros (32 - most) in
    let same : length (take most n.bytes) ≡ length (take most m.bytes) = omega (arith, length-take most n.bytes, length-take most m.bytes, n-is.size, m-is.size) in
    sym (then_equal (bytes_cmp (take most n.bytes) (take most m.bytes)))
    ∙ ap (ordering_then (bytes_cmp (take most n.bytes) (take most m.bytes))) (sym (itself_cmp z))
    ∙ sym (append_cmp (take most n.bytes) (take most m.bytes) z z same)
    ∙ ap (λ (x : List ℕ). bytes_cmp x (take most m.bytes ++ z)) (name_again most n small n-is n-short)
    ∙ ap (bytes_cmp n.bytes) (name_again most m small m-is m-short)

-- an id, then what follows it
vertex_cmp : (ids : VidKind) → IsKind ids → (v u : Vid) (a b : List ℕ) → IsOf ids v → IsOf ids u → bytes_cmp (vertex ids v ++ a) (vertex ids u ++ b) ≡ ordering_then (vid_cmp v u) (bytes_cmp a b)
vertex_cmp kinds.Num is-kind (ids_of.Num n) (ids_of.Num m) a b v-is u-is = flipped_cmp w64 ordered64 n m a b v-is u-is
vertex_cmp kinds.Num is-kind (ids_of.Num n) (ids_of.Name m) a b v-is u-is = absurd u-is
vertex_cmp kinds.Num is-kind (ids_of.Name n) u a b v-is u-is = absurd v-is
vertex_cmp (kinds.Name most) is-kind (ids_of.Num n) u a b v-is u-is = absurd v-is
vertex_cmp (kinds.Name most) is-kind (ids_of.Name n) (ids_of.Num m) a b v-is u-is = absurd u-is
vertex_cmp (kinds.Name most) is-kind (ids_of.Name n) (ids_of.Name m) a b v-is u-is =
    let f = take most n.bytes in
    let g = take most m.bytes in
    let same : length f ≡ length g = omega (arith, length-take most n.bytes, length-take most m.bytes, v-is.0.size, u-is.0.size) in
    ap (λ (x : List ℕ). bytes_cmp x ((g ++ m.len ∷ []) ++ b)) (append_assoc f (n.len ∷ []) a)
    ∙ ap (bytes_cmp (f ++ n.len ∷ a)) (append_assoc g (m.len ∷ []) b)
    ∙ append_cmp f g (n.len ∷ a) (m.len ∷ b) same
    ∙ sym (then_assoc (bytes_cmp f g) (nat_cmp n.len m.len) (bytes_cmp a b))
    ∙ ap (λ (o : Ordering). ordering_then (ordering_then o (nat_cmp n.len m.len)) (bytes_cmp a b)) (text_cmp most is-kind.1 n m v-is.0 u-is.0 v-is.1 u-is.1)

-- ---- numbers

-- a number at the end
number_last : (n x y : ℕ) → x < 256 ^ n → y < 256 ^ n → bytes_cmp (number n x) (number n y) ≡ nat_cmp x y
number_last n x y x-lt y-lt =
    ap (λ (a : List ℕ). bytes_cmp a (number n y)) (sym (append-nil (number n x)))
    ∙ ap (bytes_cmp (number n x ++ [])) (sym (append-nil (number n y)))
    ∙ number_cmp n x y [] [] x-lt y-lt
    ∙ then_equal (nat_cmp x y)

part_small : (p : ℕ) → IsSmall p → p < 256 ^ 3
part_small p is = omega (arith, is.1)

client_small : (c : ℕ) → IsSmall c → c < 256 ^ 4
client_small c is = omega (arith, is.1)

-- a part, then what follows it
part_cmp : (p q : ℕ) (a b : List ℕ) (rest : Ordering) → IsSmall p → IsSmall q → bytes_cmp a b ≡ rest → bytes_cmp (number 3 p ++ a) (number 3 q ++ b) ≡ ordering_then (nat_cmp p q) rest
part_cmp p q a b rest p-is q-is is =
    number_cmp 3 p q a b (part_small p p-is) (part_small q q-is) ∙ ap (ordering_then (nat_cmp p q)) is

-- ---- edges

module _ (ids : VidKind) (is-kind : IsKind ids) where
  -- what stands behind each field of an edge
  abbrev behind_rank : EdgeId → List ℕ
  behind_rank e = vertex ids e.dst ++ 0 ∷ []

  abbrev behind_type : EdgeId → List ℕ
  behind_type e = flipped w64 e.rank ++ behind_rank e

  abbrev behind_src : EdgeId → List ℕ
  behind_src e = flipped w32 e.etype ++ behind_type e

  abbrev behind_part : EdgeId → List ℕ
  behind_part e = vertex ids e.src ++ behind_src e

  regrouped : (part : ℕ) (e : EdgeId) → edge_form ids part e ≡ number 3 part ++ behind_part e
  regrouped part e =
      let p = number 3 part in
      let n = vertex ids e.src in
      let t = flipped w32 e.etype in
      let r = flipped w64 e.rank in
      let f = vertex ids e.dst in
      append_assoc (p ++ n ++ t ++ r) f (0 ∷ []) ∙ append_assoc (p ++ n ++ t) r (f ++ 0 ∷ []) ∙ append_assoc (p ++ n) t (r ++ (f ++ 0 ∷ [])) ∙ append_assoc p n (t ++ (r ++ (f ++ 0 ∷ [])))

  edge_cmp_is : (p q : ℕ) (e f : EdgeId) → FitsForm ids (p, e) → FitsForm ids (q, f) → bytes_cmp (behind_part e) (behind_part f) ≡ edge_cmp e f
  edge_cmp_is p q e f a b =
      let last = vertex_cmp ids is-kind e.dst f.dst (0 ∷ []) (0 ∷ []) a.dst b.dst ∙ then_equal (vid_cmp e.dst f.dst) in
      let third = flipped_cmp w64 ordered64 e.rank f.rank (behind_rank e) (behind_rank f) a.rank b.rank ∙ ap (ordering_then (int_cmp e.rank f.rank)) last in
      let second = flipped_cmp w32 ordered32 e.etype f.etype (behind_type e) (behind_type f) a.etype b.etype ∙ ap (ordering_then (int_cmp e.etype f.etype)) third in
      vertex_cmp ids is-kind e.src f.src (behind_src e) (behind_src f) a.src b.src ∙ ap (ordering_then (vid_cmp e.src f.src)) second

  -- the keys of two edges, as their parts see them
  edges_order : (kind p q : ℕ) (e f : EdgeId) → FitsForm ids (p, e) → FitsForm ids (q, f)
      → bytes_cmp (kind ∷ edge_form ids p e) (kind ∷ edge_form ids q f) ≡ ordering_then (nat_cmp kind kind) (ordering_then (nat_cmp p q) (edge_cmp e f))
  edges_order kind p q e f a b =
      ap (ordering_then (nat_cmp kind kind))
      (ap (λ (x : List ℕ). bytes_cmp x (edge_form ids q f)) (regrouped p e)
      ∙ ap (bytes_cmp (number 3 p ++ behind_part e)) (regrouped q f)
      ∙ part_cmp p q (behind_part e) (behind_part f) (edge_cmp e f) a.part b.part (edge_cmp_is p q e f a b))

  tags_order : (p q : ℕ) (v u : Vid) (t s : ℕ) → FitsKey ids (Tag p v t) → FitsKey ids (Tag q u s) → bytes_cmp (key ids (Tag p v t)) (key ids (Tag q u s)) ≡ key_cmp (Tag p v t) (Tag q u s)
  tags_order p q v u t s a b =
      let last = number_last 4 t s a.2 b.2 in
      let first = vertex_cmp ids is-kind v u (number 4 t) (number 4 s) a.1 b.1 ∙ ap (ordering_then (vid_cmp v u)) last in
      ap (λ (x : List ℕ). bytes_cmp (1 ∷ x) (key ids (Tag q u s))) (append_assoc (number 3 p) (vertex ids v) (number 4 t))
      ∙ ap (λ (y : List ℕ). bytes_cmp (1 ∷ (number 3 p ++ (vertex ids v ++ number 4 t))) (1 ∷ y)) (append_assoc (number 3 q) (vertex ids u) (number 4 s))
      ∙ part_cmp p q (vertex ids v ++ number 4 t) (vertex ids u ++ number 4 s) (tag_cmp (tag_at v t) (tag_at u s)) a.0 b.0 first

  -- keys of different kinds are told apart by their first byte
  keys_by : (k l : Key) → FitsKey ids k → FitsKey ids l → bytes_cmp (key ids k) (key ids l) ≡ key_cmp k l
  keys_by (Tag p v t) (Tag q u s) a b = tags_order p q v u t s a b
  keys_by (Tag p v t) _ a b = refl
  keys_by (OutEdge p e) (OutEdge q f) a b = edges_order 2 p q e f (form_of_edge ids p e a) (form_of_edge ids q f b)
  keys_by (OutEdge p e) (InEdge q f) a b = edges_order 2 p q e (turned f) (form_of_edge ids p e a) (form_of_turned ids q f b)
  keys_by (OutEdge p e) _ a b = refl
  keys_by (InEdge p e) (OutEdge q f) a b = edges_order 2 p q (turned e) f (form_of_turned ids p e a) (form_of_edge ids q f b)
  keys_by (InEdge p e) (InEdge q f) a b = edges_order 2 p q (turned e) (turned f) (form_of_turned ids p e a) (form_of_turned ids q f b)
  keys_by (InEdge p e) _ a b = refl
  keys_by (Prime p e) (Prime q f) a b = edges_order 3 p q e f (form_of_edge ids p e a) (form_of_edge ids q f b)
  keys_by (Prime p e) _ a b = refl
  keys_by (DoublePrime p e) (DoublePrime q f) a b = edges_order 4 p q e f (form_of_edge ids p e a) (form_of_edge ids q f b)
  keys_by (DoublePrime p e) _ a b = refl
  keys_by (Guard p source) (Guard q other) a b =
      part_cmp p q (number 3 source) (number 3 other) (nat_cmp source other) a.0 b.0 (number_last 3 source other (part_small source a.1) (part_small other b.1))
  keys_by (Guard p source) _ a b = refl
  keys_by (Client p client) (Client q other) a b =
      part_cmp p q (number 4 client) (number 4 other) (nat_cmp client other) a.0 b.0 (number_last 4 client other (client_small client a.1) (client_small other b.1))
  keys_by (Client p client) _ a b = refl

-- bytes of keys are ordered as their fields
pub keys_order : (ids : VidKind) → IsKind ids → (k l : Key) → FitsKey ids k → FitsKey ids l → bytes_cmp (key ids k) (key ids l) ≡ key_cmp k l
keys_order ids is-kind k l a b = keys_by ids is-kind k l a b

-- ---- within one part

-- two keys of one kind and part are ordered by what is behind
within_part : (kind p : ℕ) (rest : Ordering) → ordering_then (nat_cmp kind kind) (ordering_then (nat_cmp p p) rest) ≡ rest
within_part kind p rest =
    ap (λ (o : Ordering). ordering_then o (ordering_then (nat_cmp p p) rest)) (cmp_equal kind kind refl) ∙ ap (λ (o : Ordering). ordering_then o rest) (cmp_equal p p refl)

-- within one part, keys of out-halves are ordered as edges
pub out_order : (ids : VidKind) → IsKind ids → (p : ℕ) (e f : EdgeId) → FitsKey ids (OutEdge p e) → FitsKey ids (OutEdge p f) → bytes_cmp (key ids (OutEdge p e)) (key ids (OutEdge p f)) ≡ edge_cmp e f
out_order ids is-kind p e f a b = keys_order ids is-kind (OutEdge p e) (OutEdge p f) a b ∙ within_part 2 p (edge_cmp e f)

-- within one part, keys of tags are ordered as vertex and tag
pub tag_order : (ids : VidKind) → IsKind ids → (p : ℕ) (v u : Vid) (tag mark : ℕ) → FitsKey ids (Tag p v tag) → FitsKey ids (Tag p u mark) → bytes_cmp (key ids (Tag p v tag)) (key ids (Tag p u mark)) ≡ tag_cmp (tag_at v tag) (tag_at u mark)
tag_order ids is-kind p v u tag mark a b = keys_order ids is-kind (Tag p v tag) (Tag p u mark) a b ∙ within_part 1 p (tag_cmp (tag_at v tag) (tag_at u mark))

-- a number isn't told from itself
int_itself : (t : ℤ) → int_cmp t t ≡ Equal
int_itself t = sym (int_cmp_is t t Equal refl)

-- two types that stand alike when negated are one
type_again : (t s : ℤ) (o rank far : Ordering) → int_cmp (neg_ℤ t) (neg_ℤ s) ≡ o → ordering_then o (ordering_then rank far) ≡ ordering_then o (ordering_then rank (ordering_then far (int_cmp t s)))
type_again t s Less rank far is = refl
type_again t s Greater rank far is = refl
type_again t s Equal rank far is =
    let same : t ≡ s = sym (neg_neg t) ∙ ap neg_ℤ (int_cmp-IsAntisymmetric (neg_ℤ t) (neg_ℤ s) is) ∙ neg_neg s in
    let none : int_cmp t s ≡ Equal = subst (λ (x : ℤ). int_cmp t x ≡ Equal) same (int_itself t) in
    ap (ordering_then rank) (sym (then_equal far) ∙ ap (ordering_then far) (sym none))

turned_cmp : (e f : EdgeId) → edge_cmp (turned e) (turned f) ≡ in_cmp (in_key e) (in_key f)
turned_cmp e f = ap (ordering_then (vid_cmp e.dst f.dst)) (type_again e.etype f.etype (int_cmp (neg_ℤ e.etype) (neg_ℤ f.etype)) (int_cmp e.rank f.rank) (vid_cmp e.src f.src) refl)

-- within one part, keys of in-halves are ordered as in-halves
pub in_order : (ids : VidKind) → IsKind ids → (p : ℕ) (e f : EdgeId) → FitsKey ids (InEdge p e) → FitsKey ids (InEdge p f) → bytes_cmp (key ids (InEdge p e)) (key ids (InEdge p f)) ≡ in_cmp (in_key e) (in_key f)
in_order ids is-kind p e f a b = keys_order ids is-kind (InEdge p e) (InEdge p f) a b ∙ within_part 2 p (edge_cmp (turned e) (turned f)) ∙ turned_cmp e f
