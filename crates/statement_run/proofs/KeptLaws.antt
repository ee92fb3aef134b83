-- The laws of what a client keeps of its lines.
use Rattle.std.proofs.Common.{◌≡◌, ℕ, List, [], ◌∷◌, ◌++◌, Option, Some, None, Bool, true, false, ◌||◌, cond, refl, ap, ◌∙◌}
use Rattle.std.proofs.lemmas.Bool.{or_parts}
use Rattle.std.specs.FinMap.{get, insert}
use Rattle.std.specs.Option.{is_some, option_map}
use Rattle.std.specs.Ordering.{nat_cmp, eq_by_cmp}
use Rattle.maps.proofs.Keys.{nat_keys, told_back}
use Rattle.maps.proofs.Updates.{insert_here, insert_apart, altered_here, altered_apart}
use Rattle.graph_model.specs.declared.answer.Answer.{Answer}
use Rattle.graph_model.specs.declared.op.Op.{Op}
use Rattle.statement_run.specs.Statement.{Running, call_next}
use Rattle.statement_run.specs.Ending.{ending_of}
use Rattle.statement_run.specs.Kept.{Line, Ends, Kept, filled, noted_in}
use Rattle.statement_run.specs.Laws.{is_among, AreOpen, HoldsOpen, LeavesOpen, TellsEnded}
use Rattle.statement_run.specs.declared.ending.Ending.{Ending}

-- a line that isn't among some others is apart from each
apart : (n : ℕ) (line : Line) (lines : List Line) → is_among n (line ∷ lines) ≡ false → (eq_by_cmp nat_cmp n line.number ≡ false) × (is_among n lines ≡ false)
apart n line lines out = or_parts (eq_by_cmp nat_cmp n line.number) (is_among n lines) out

abbrev row : List Line → Ends → Kept
row lines ends = record { lines = lines; ends = ends }

abbrev told_of : Line → List Answer → Option Ending → Option Ending
told_of line answers place = Some (ending_of line.bound answers)

-- an answer at another line leaves them are
open_filled : (lines : List Line) (ends : Ends) (line : Line) (answers : List Answer) → is_among line.number lines ≡ false → AreOpen lines ends → AreOpen lines (filled line answers ends)
open_filled [] ends line answers out are = tt
open_filled (l ∷ lines) ends line answers out are =
    let off = apart line.number l lines out in
    (altered_apart nat_keys ends line.number (told_of line answers) l.number (told_back nat_keys l.number line.number ∙ off.0) ∙ are.0, are.1, open_filled lines ends line answers off.1 are.2)

-- one more stands last
among_more : (n : ℕ) (lines : List Line) (line : Line) → is_among n lines ≡ false → eq_by_cmp nat_cmp n line.number ≡ false → is_among n (lines ++ line ∷ []) ≡ false
among_more n [] line out off = ap (λ b. b || false) off
among_more n (l ∷ lines) line out off =
    let parts = apart n l lines out in
    ap (λ b. b || is_among n (lines ++ line ∷ [])) parts.0 ∙ among_more n lines line parts.1 off

open_more : (lines : List Line) (ends : Ends) (line : Line) → is_among line.number lines ≡ false → AreOpen lines ends → AreOpen (lines ++ line ∷ []) (insert ends line.number None)
open_more [] ends line out are = (insert_here nat_keys ends line.number None, refl, tt)
open_more (l ∷ lines) ends line out are =
    let off = apart line.number l lines out in
    let back = told_back nat_keys l.number line.number ∙ off.0 in
    (insert_apart nat_keys ends line.number None l.number back ∙ are.0, among_more l.number lines line are.1 back, open_more lines ends line off.1 are.2)

pub holds_open : (k : Kept) → HoldsOpen k
holds_open k line out are = open_more k.lines k.ends line out are

open_noted : (lines : List Line) (queue : List Running) (ends : Ends) → AreOpen lines ends → AreOpen (noted_in lines queue ends).lines (noted_in lines queue ends).ends
open_noted [] queue ends are = tt
open_noted (line ∷ lines) [] ends are = are
open_noted (line ∷ lines) (r ∷ queue) ends are =
    go (is_some (call_next r)) (open_noted lines queue (filled line r.answers ends) (open_filled lines ends line r.answers are.1 are.2))
  where
    go : (b : Bool) → AreOpen (noted_in lines queue (filled line r.answers ends)).lines (noted_in lines queue (filled line r.answers ends)).ends
        → AreOpen (cond b (row (line ∷ lines) ends) (noted_in lines queue (filled line r.answers ends))).lines
        (cond b (row (line ∷ lines) ends) (noted_in lines queue (filled line r.answers ends))).ends
    go true rest = are
    go false rest = rest

pub leaves_open : (k : Kept) → LeavesOpen k
leaves_open k queue are = open_noted k.lines queue k.ends are

-- what stands at a line that isn't among them stays
stays : (lines : List Line) (queue : List Running) (ends : Ends) (n : ℕ) → is_among n lines ≡ false → get (noted_in lines queue ends).ends n ≡ get ends n
stays [] queue ends n out = refl
stays (line ∷ lines) [] ends n out = refl
stays (line ∷ lines) (r ∷ queue) ends n out =
    go (is_some (call_next r)) (stays lines queue (filled line r.answers ends) n (apart n line lines out).1)
  where
    go : (b : Bool) → get (noted_in lines queue (filled line r.answers ends)).ends n ≡ get (filled line r.answers ends) n
        → get (cond b (row (line ∷ lines) ends) (noted_in lines queue (filled line r.answers ends))).ends n ≡ get ends n
    go true rest = refl
    go false rest = rest ∙ altered_apart nat_keys ends line.number (told_of line r.answers) n (apart n line lines out).0

pub tells_ended : (lines : List Line) (ends : Ends) → TellsEnded lines ends
tells_ended lines ends line r queue are none =
    ap (λ (o : Option Op). get (cond (is_some o) (row (line ∷ lines) ends) (noted_in lines queue (filled line r.answers ends))).ends line.number) none
    ∙ stays lines queue (filled line r.answers ends) line.number are.1
    ∙ altered_here nat_keys ends line.number (told_of line r.answers)
    ∙ ap (option_map (told_of line r.answers)) are.0
