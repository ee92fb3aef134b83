-- What there is to do for each line of a script.
use Rattle.std.specs.Prelude.{ℕ, pos, Bool, true, false, List, [], ◌∷◌, Option, None, Some}
use Rattle.first_graph.specs.declared.op.Op.{Op}
use Rattle.first_graph.specs.declared.op.Op.TheVariants.{PutEdge, Read}
use Rattle.first_graph.specs.declared.query.Query.TheVariants as query
use Rattle.first_graph.specs.declared.val.Val.TheVariants.{Int}
use Rattle.first_script.specs.declared.statement.Statement.{Statement}
use Rattle.first_script.specs.declared.statement.Statement.TheVariants.{Insert, Out, In}
use Rattle.first_script.specs.declared.work.Awaited.{Awaited}
use Rattle.first_script.specs.declared.work.Awaited.TheVariants as awaited
use Rattle.first_script.specs.declared.work.Work.{Work}
use Rattle.first_script.specs.declared.work.Work.TheVariants.{Ready, Call, Refused}
use Rattle.first_script.specs.Statements.{statement_of, is_space_line, is_edge_type_line}

-- a line of the head is the one that is wanted, and next is awaited; or it and every later line is refused
abbrev pub head_work : Bool → Awaited → Work × Awaited
head_work true next = (Ready, next)
head_work false next = (Refused, awaited.Nothing)

-- a later line is a statement, or it alone is refused
abbrev pub call_work : Option Statement → Work
call_work (Some statement) = Call statement
call_work None = Refused

-- what there is to do for a line, and what the next line has to be
abbrev pub work_of : Awaited → List ℕ → Work × Awaited
work_of awaited.Space line = head_work (is_space_line line) awaited.EdgeType
work_of awaited.EdgeType line = head_work (is_edge_type_line line) awaited.Statement
work_of awaited.Statement line = (call_work (statement_of line), awaited.Statement)
work_of awaited.Nothing line = (Refused, awaited.Nothing)

-- what there is to do for each line
abbrev pub works_from : Awaited → List (List ℕ) → List Work
works_from next [] = []
works_from next (line ∷ lines) = (work_of next line).0 ∷ works_from (work_of next line).1 lines

abbrev pub works : List (List ℕ) → List Work
works lines = works_from awaited.Space lines

-- the one call of a statement: `follow` is edge type 1
abbrev pub op_of : Statement → Op
op_of (Insert src dst degree) = PutEdge (record { src = src; etype = pos 1; rank = pos 0; dst = dst }) (Int degree ∷ []) false
op_of (Out vid) = Read (query.Out vid (pos 1 ∷ []))
op_of (In vid) = Read (query.In vid (pos 1 ∷ []))

-- the calls, in order
abbrev pub ops_of : List Work → List Op
ops_of [] = []
ops_of (Ready ∷ works) = ops_of works
ops_of (Call statement ∷ works) = op_of statement ∷ ops_of works
ops_of (Refused ∷ works) = ops_of works
