-- Calls that are new to a part, and the ops whose entries are Primes.
use Rattle.std.proofs.Common.{◌≡◌, ◌≢◌, List, [], ◌∷◌, Option, None, Some, Bool, true, false, refl, ap, sym, subst, ◌∙◌, arith, eqb-true}
use Rattle.std.specs.Prelude.{◌==◌, nat_lt}
use Rattle.std.specs.FinMap.{get}
use Rattle.std.proofs.lemmas.Bool.{cond_both, ltb-false, eqb-false}
use Rattle.graph_model.specs.declared.call_id.CallId.{CallId}
use Rattle.graph_model.specs.declared.edge_id.EdgeId.{EdgeId}
use Rattle.graph_model.specs.declared.half.Half.{Half}
use Rattle.graph_model.specs.declared.op.Op.{Op}
use Rattle.graph_model.specs.declared.op.Op.TheVariants.{PutEdges, DelEdges, PutVertex, DelVertex, Read as ReadOp}
use Rattle.graph_model.specs.Ops.{is_op, are_edges, halves_of, is_careful, is_edge_op, query_of}
use Rattle.part_keys.specs.declared.entry.PartEntry.TheVariants.{Prime}
use Rattle.part_rules.specs.declared.applied.Applied.{Applied}
use Rattle.part_rules.specs.declared.applied.Applied.TheVariants.{Old, Again}
use Rattle.part_rules.specs.declared.kept.Kept.{Kept}
use Rattle.part_rules.specs.Part.{Part}
use Rattle.part_rules.specs.Machine.{where_new, where_new_to}
use Rattle.chain_leader.specs.Calls.{entry_of}
use Rattle.chain_world.specs.Invariant.Sound.{IsAbove}

-- a call of a part: its number is old, or the client's last, or above what the part keeps
pub new_cases : (m : Part) (Q : Part × Applied → Type 0) (id : CallId) (next : Part × Applied) → Q (m, Old)
    → ((last : Kept) → get m.clients id.client ≡ Some last → id.number ≡ last.number → Q (m, Again last.outcome))
    → (IsAbove (get m.clients id.client) id.number → Q next) → Q (where_new m id next)
new_cases m Q id next old again new = go (get m.clients id.client) refl
  where
    go : (o : Option Kept) → get m.clients id.client ≡ o → Q (where_new_to m id next o)
    go None e = new (subst (λ o. IsAbove o id.number) (sym e) tt)
    go (Some last) e = cond_both (nat_lt id.number last.number) _ _ Q (λ _. old) (λ low. cond_both (id.number == last.number) _ _ Q
        (λ same. again last e (eqb-true id.number last.number same))
        (λ apart. new (subst (λ o. IsAbove o id.number) (sym e) (let l = ltb-false id.number last.number low in let n = eqb-false id.number last.number apart in omega arith))))

-- the op whose entry is a Prime
pub record IsPrimeOf (op : Op) (list : List (EdgeId × Half)) (absent : Bool) : Type 0 where
  pub halves : halves_of op ≡ list
  pub careful : is_careful op ≡ absent
  pub on_edges : is_edge_op op ≡ true
  pub writes : query_of op ≡ None

-- an op of which a Prime is the entry
pub prime_of_op : (id other : CallId) (op : Op) (list : List (EdgeId × Half)) (absent : Bool) → entry_of id op ≡ Prime other list absent → IsPrimeOf op list absent
prime_of_op id other (PutEdges rows flag) list absent e = record { halves = (let f : halves_of (PutEdges rows flag) ≡ list = cc in f); careful = (let f : flag ≡ absent = cc in f); on_edges = refl; writes = refl }
prime_of_op id other (DelEdges edges) list absent e = record { halves = (let f : halves_of (DelEdges edges) ≡ list = cc in f); careful = (let f : false ≡ absent = cc in f); on_edges = refl; writes = refl }
prime_of_op id other (PutVertex v t row flag) list absent e = cc
prime_of_op id other (DelVertex v) list absent e = cc
prime_of_op id other (ReadOp q) list absent e = cc

-- an op on edges has an edge
edges_some : (es : List EdgeId) → are_edges es ≡ true → es ≢ []
edges_some es sized none = let t : false ≡ true = ap are_edges (sym none) ∙ sized in cc

-- an op on edges has halves to write
pub op_some : (op : Op) → is_op op ≡ true → is_edge_op op ≡ true → halves_of op ≢ []
op_some (PutEdges [] flag) sized edges none = cc
op_some (PutEdges (x ∷ rows) flag) sized edges none = cc
op_some (DelEdges []) sized edges none = cc
op_some (DelEdges (x ∷ es)) sized edges none = cc
op_some (PutVertex v t row flag) sized edges none = cc
op_some (DelVertex v) sized edges none = cc
op_some (ReadOp q) sized edges none = cc
