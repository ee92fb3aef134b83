-- Answers by hand.
use Rattle.std.specs.Prelude.{◌≡◌, ℕ, pos, negsuc, false, List, [], ◌∷◌, codes, Some, None}
use Rattle.graph_model.specs.declared.edge_id.EdgeId.{EdgeId}
use Rattle.graph_model.specs.declared.found.Found.{Found}
use Rattle.graph_model.specs.declared.query.Query.TheVariants.{Tag}
use Rattle.graph_model.specs.declared.val.Val.TheVariants.{Int, Words}
use Rattle.graph_model.specs.declared.vid.Vid.TheVariants.{Num}
use Rattle.line_print.specs.Print.{print_line}
use Rattle.ngql_syntax.specs.declared.cond.Rel.TheVariants.{Gt}
use Rattle.ngql_syntax.specs.declared.go.Way.TheVariants.{Outward}
use Rattle.schema_book.specs.declared.bound.Expr.TheVariants.{Dst, Rank, Id, Label, Prop}
use Rattle.schema_book.specs.declared.bound.FetchPlan.{FetchPlan}
use Rattle.schema_book.specs.declared.bound.GoPlan.{GoPlan}
use Rattle.schema_book.specs.declared.bound.Step.TheVariants.{Test}
use Rattle.schema_book.specs.Entries.{Entries}
use Rattle.statement_run.specs.declared.ending.Ending.{Ending}
use Rattle.statement_run.specs.declared.ending.Ending.TheVariants as end
use Rattle.line_answer.specs.Answered.{shown}

-- one edge type, the first, with one column
abbrev pub edges : Entries
edges = (codes "follow", []) ∷ []

abbrev pub edge_to : ℕ → EdgeId
edge_to n = record { src = Num (pos 1); etype = pos 1; rank = negsuc 0; dst = Num (pos n) }

abbrev pub found_to : ℕ → ℕ → Found
found_to n degree = record { edge = Some (edge_to n); inward = false; row = Int (pos degree) ∷ [] }

-- FETCH of two tag rows, of which one is there
abbrev pub fetch : FetchPlan
fetch = record { reads = Tag (Num (pos 7)) 1 ∷ Tag (Num (pos 8)) 1 ∷ []; shown = Id ∷ Prop ((1, 0) ∷ []) ∷ [] }

-- GO .. WHERE follow.degree > 50 YIELD dst(edge), rank(edge), type(edge), follow.degree
abbrev pub go : GoPlan
go = record {
  steps = 1;
  start = Num (pos 1) ∷ [];
  types = pos 1 ∷ [];
  way = Outward;
  keep = Some (Test (Prop ((1, 0) ∷ [])) Gt (Int (pos 50)) ∷ []);
  shown = Dst ∷ Rank ∷ Label ∷ Prop ((1, 0) ∷ []) ∷ [];
}

abbrev pub printed : Ending → List ℕ
printed ending = print_line 3 (shown edges ending)

pub record AnswersByHand : Type 0 where
  pub fine : printed end.Fine ≡ codes "3: OK\n"
  pub skipped : printed end.Skipped ≡ codes "3: SKIPPED\n"
  pub pending : printed end.Pending ≡ codes "3: PENDING\n"
  pub fetched : printed (end.Fetched fetch ([] ∷ (record { edge = None; inward = false; row = Words (codes "Ann") ∷ [] } ∷ []) ∷ [])) ≡ codes "3: ROWS 1\n  8, \"Ann\"\n"
  pub walked : printed (end.Walked go ((found_to 2 50 ∷ found_to 3 90 ∷ []) ∷ [])) ≡ codes "3: ROWS 1\n  3, -1, \"follow\", 90\n"
  pub wide : printed end.Wide ≡ codes "3: ERROR wide 4096\n"
  pub conflict : printed (end.Conflict (record { client = 2; number = 31 }) 1) ≡ codes "3: CONFLICT 2.31 AT 1\n"
  pub cancelled : printed (end.Cancelled 2) ≡ codes "3: CANCELLED AT 2\n"
  pub unknown : printed (end.Unknown 64) ≡ codes "3: UNKNOWN AT 64\n"
