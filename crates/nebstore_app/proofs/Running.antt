-- A script is answered line by line: what stands between two lines.
use Rattle.std.proofs.Common.{◌≡◌, ℕ, ◌+◌, ◌≤◌, ◌<◌, length, List, [], ◌∷◌, ◌++◌, append_assoc, take, suc, Option, Bool, refl, ap, sym, subst, ◌∙◌, arith, length-append}
use Rattle.first_graph.specs.declared.answer.Answer.{Answer}
use Rattle.first_script.specs.Works.{work_of, works_from, works, op_of, ops_of}
use Rattle.first_script.specs.Answers.{line_answers, statement_answer}
use Rattle.first_script.specs.Print.{print, print_line}
use Rattle.first_script.specs.declared.line_answer.LineAnswer.{LineAnswer}
use Rattle.first_script.specs.declared.line_answer.LineAnswer.TheVariants.{Fine, Syntax}
use Rattle.first_script.specs.declared.work.Awaited.{Awaited}
use Rattle.first_script.specs.declared.work.Awaited.TheVariants.{Space}
use Rattle.first_script.specs.declared.work.Work.{Work}
use Rattle.first_script.specs.declared.work.Work.TheVariants.{Ready, Call, Refused}
use Rattle.outside_io.specs.Bytes.{Appends, AppendsFront, behind_told}
use Rattle.nebstore_app.specs.Packets.{the_client}
use Rattle.nebstore_app.specs.World.{World, start}
use Rattle.nebstore_app.specs.Calls.{calls_of, numbered, IsQuiet}
use Rattle.nebstore_app.specs.Answering.{lines_by, IsAnswered, IsPartlyAnswered, printed, AnswersLine, LeavesLine, StopsLine}
use Rattle.nebstore_app.proofs.Fronts.{none_more, front_of_whole, behind_none, appends_both, nothing_written, front_written}

-- the lines before these are answered, and their answers are written
pub record Running (cut : Bool) (script rest : List ℕ) (awaited : Awaited) (number : ℕ) (w : World) (old new : Option (List ℕ)) : Type 0 where
  pub done : List Work
  pub answers : List Answer
  pub whole : works (lines_by cut script) ≡ done ++ works_from awaited (lines_by cut rest)
  pub quiet : IsQuiet w
  pub last : w.last ≡ length (ops_of done)
  pub answered : IsAnswered done w.events answers
  pub counted : number ≡ length done + 1
  pub written : Appends old (printed done answers) new
  pub room : number + length rest ≤ length script + 1

pub run_start : (cut : Bool) (script : List ℕ) (old : Option (List ℕ)) → Running cut script script Space 1 start old old
run_start cut script old = record {
  done = [];
  answers = [];
  whole = refl;
  quiet = record { reached = refl; resting = refl; nobody = refl };
  last = refl;
  answered = record { calls = refl; replies = refl; each = refl };
  counted = refl;
  written = behind_none old;
  room = omega arith;
}

ops-append : (xs ys : List Work) → ops_of (xs ++ ys) ≡ ops_of xs ++ ops_of ys
ops-append [] ys = refl
ops-append (Ready ∷ xs) ys = ops-append xs ys
ops-append (Call s ∷ xs) ys = ap (λ ops. op_of s ∷ ops) (ops-append xs ys)
ops-append (Refused ∷ xs) ys = ops-append xs ys

numbered-append : {A : Type 0} (n : ℕ) (xs ys : List A) (m : ℕ) → m ≡ n + length xs → numbered n (xs ++ ys) ≡ numbered n xs ++ numbered m ys
numbered-append n [] ys m is = ap (λ k. numbered k ys) (let e : n ≡ m = omega (arith, is) in e)
numbered-append n (x ∷ xs) ys m is = ap (λ zs. (record { client = the_client; number = n }, x) ∷ zs) (numbered-append (n + 1) xs ys m (omega (arith, is)))

-- the answers of the first works, and those of the others
line_answers-append : (xs ys : List Work) (answers bs : List Answer) → length answers ≡ length (ops_of xs) → line_answers (xs ++ ys) (answers ++ bs) ≡ line_answers xs answers ++ line_answers ys bs
line_answers-append [] ys [] bs is = refl
line_answers-append [] ys (a ∷ answers) bs is = absurd (omega (arith, is))
line_answers-append (Ready ∷ xs) ys answers bs is = ap (λ zs. Fine ∷ zs) (line_answers-append xs ys answers bs is)
line_answers-append (Refused ∷ xs) ys answers bs is = ap (λ zs. Syntax ∷ zs) (line_answers-append xs ys answers bs is)
line_answers-append (Call s ∷ xs) ys [] bs is = absurd (omega (arith, is))
line_answers-append (Call s ∷ xs) ys (a ∷ answers) bs is = ap (λ zs. statement_answer s (a ∷ []) ∷ zs) (line_answers-append xs ys answers bs (omega (arith, is)))

length-line_answers : (xs : List Work) (answers : List Answer) → length answers ≡ length (ops_of xs) → length (line_answers xs answers) ≡ length xs
length-line_answers [] answers is = refl
length-line_answers (Ready ∷ xs) answers is = ap suc (length-line_answers xs answers is)
length-line_answers (Refused ∷ xs) answers is = ap suc (length-line_answers xs answers is)
length-line_answers (Call s ∷ xs) [] is = absurd (omega (arith, is))
length-line_answers (Call s ∷ xs) (a ∷ answers) is = ap suc (length-line_answers xs answers (omega (arith, is)))

print-append : (n : ℕ) (xs ys : List LineAnswer) (m : ℕ) → m ≡ n + length xs → print n (xs ++ ys) ≡ print n xs ++ print m ys
print-append n [] ys m is = ap (λ k. print k ys) (let e : n ≡ m = omega (arith, is) in e)
print-append n (x ∷ xs) ys m is = ap (λ bytes. print_line n x ++ bytes) (print-append (n + 1) xs ys m (omega (arith, is))) ∙ sym (append_assoc (print_line n x) (print (n + 1) xs) (print m ys))

-- what is printed of some lines and of more
printed-append : (done more : List Work) (answers bs : List Answer) (number : ℕ) → length answers ≡ length (ops_of done) → number ≡ length done + 1 → printed (done ++ more) (answers ++ bs) ≡ printed done answers ++ print number (line_answers more bs)
printed-append done more answers bs number each counted =
    let long = length-line_answers done answers each in
    ap (print 1) (line_answers-append done more answers bs each) ∙ print-append 1 (line_answers done answers) (line_answers more bs) number (omega (arith, long, counted))

pub run_more : (cut : Bool) (script rest behind line : List ℕ) (awaited : Awaited) (number : ℕ) (w v : World) (a : LineAnswer) (old mid new : Option (List ℕ))
    → Running cut script rest awaited number w old mid → lines_by cut rest ≡ line ∷ lines_by cut behind → length behind < length rest
    → AnswersLine w v (work_of awaited line).0 a → Appends mid (print_line number a) new → Running cut script behind (work_of awaited line).1 (number + 1) v old new
run_more cut script rest behind line awaited number w v a old mid new r split shorter h wrote =
    let work = (work_of awaited line).0 in
    let ops = ops-append r.done (work ∷ []) in
    let many = length-append (ops_of r.done) (ops_of (work ∷ [])) in
    let long = ap length ops in
    let last_is = r.last in
    let last_then = h.last in
    let lines_long = length-append r.done (work ∷ []) in
    let answers_long = length-append r.answers h.answers in
    let each_then = r.answered.each in
    let each_now = h.each in
    let counted = r.counted in
    let room = r.room in
    let text = printed-append r.done (work ∷ []) r.answers h.answers number r.answered.each r.counted ∙ ap (λ bytes. printed r.done r.answers ++ bytes) (ap (print number) h.is ∙ none_more (print_line number a)) in
    record {
      done = r.done ++ work ∷ [];
      answers = r.answers ++ h.answers;
      whole = r.whole ∙ (ap (λ ls. r.done ++ works_from awaited ls) split ∙ sym (append_assoc r.done (work ∷ []) (works_from (work_of awaited line).1 (lines_by cut behind))));
      quiet = h.quiet;
      last = omega (arith, last_is, last_then, many, long);
      answered = record {
        calls = h.calls ∙ (ap (λ cs. cs ++ numbered (w.last + 1) (ops_of (work ∷ []))) r.answered.calls
            ∙ sym (ap (numbered 1) ops ∙ numbered-append 1 (ops_of r.done) (ops_of (work ∷ [])) (w.last + 1) (omega (arith, last_is))));
        replies = h.replies ∙ (ap (λ rs. rs ++ numbered (w.last + 1) h.answers) r.answered.replies
            ∙ sym (numbered-append 1 r.answers h.answers (w.last + 1) (omega (arith, last_is, each_then))));
        each = omega (arith, answers_long, each_then, each_now, many, long);
      };
      counted = omega (arith, counted, lines_long);
      written = appends_both old mid new (printed r.done r.answers) (print_line number a) r.written wrote ∙ ap (behind_told old) (sym text);
      room = omega (arith, room, shorter);
    }

pub run_end : (cut : Bool) (script rest : List ℕ) (awaited : Awaited) (number : ℕ) (w : World) (old new : Option (List ℕ)) → Running cut script rest awaited number w old new → lines_by cut rest ≡ []
    → (answers : List Answer) × IsAnswered (works (lines_by cut script)) w.events answers × Appends old (printed (works (lines_by cut script)) answers) new
run_end cut script rest awaited number w old new r none =
    let all : works (lines_by cut script) ≡ r.done = r.whole ∙ (ap (λ ls. r.done ++ works_from awaited ls) none ∙ none_more r.done) in
    (r.answers, subst (λ ws. IsAnswered ws w.events r.answers) (sym all) r.answered, subst (λ ws. Appends old (printed ws r.answers) new) (sym all) r.written)

-- the answers of one line are those of the first of several
first_answers : (work : Work) (more : List Work) (answers : List Answer) → (tail : List LineAnswer) × (line_answers (work ∷ more) answers ≡ line_answers (work ∷ []) answers ++ tail)
first_answers Ready more answers = (line_answers more answers, refl)
first_answers Refused more answers = (line_answers more answers, refl)
first_answers (Call s) more [] = ([], refl)
first_answers (Call s) more (a ∷ answers) = (line_answers more answers, refl)

pub run_left : (cut : Bool) (script rest behind line : List ℕ) (awaited : Awaited) (number : ℕ) (w v : World) (old mid new : Option (List ℕ))
    → Running cut script rest awaited number w old mid → lines_by cut rest ≡ line ∷ lines_by cut behind → StopsLine w v number (work_of awaited line).0 mid new
    → (answers : List Answer) × IsPartlyAnswered (works (lines_by cut script)) v.events answers × AppendsFront old (printed (works (lines_by cut script)) answers) new
run_left cut script rest behind line awaited number w v old mid new r split s =
    let work = (work_of awaited line).0 in
    let more = works_from (work_of awaited line).1 (lines_by cut behind) in
    let all : works (lines_by cut script) ≡ r.done ++ (work ∷ more) = r.whole ∙ ap (λ ls. r.done ++ works_from awaited ls) split in
    let ops : ops_of (works (lines_by cut script)) ≡ ops_of r.done ++ (ops_of (work ∷ []) ++ ops_of more) = ap ops_of all ∙ (ops-append r.done (work ∷ more) ∙ ap (λ os. ops_of r.done ++ os) (ops-append (work ∷ []) more)) in
    let last_is = r.last in
    let each_then = r.answered.each in
    let few = s.1.few in
    let answers_long = length-append r.answers s.0 in
    let ops_long = length-append (ops_of r.done) (ops_of (work ∷ []) ++ ops_of more) in
    let rest_long = length-append (ops_of (work ∷ [])) (ops_of more) in
    let whole_long = ap length ops in
    let tail = first_answers work more s.0 in
    let text : printed (works (lines_by cut script)) (r.answers ++ s.0) ≡ printed r.done r.answers ++ (print number (line_answers (work ∷ []) s.0) ++ print (number + length (line_answers (work ∷ []) s.0)) tail.0) =
    ap (λ ws. printed ws (r.answers ++ s.0)) all ∙ (printed-append r.done (work ∷ more) r.answers s.0 number r.answered.each r.counted
    ∙ ap (λ bytes. printed r.done r.answers ++ bytes) (ap (print number) tail.1 ∙ print-append number (line_answers (work ∷ []) s.0) tail.0 _ refl)) in (
      r.answers ++ s.0,
      record {
        made = length (ops_of r.done) + length (take s.1.made (ops_of (work ∷ [])));
        calls = s.1.calls ∙ (ap (λ cs. cs ++ numbered (w.last + 1) (take s.1.made (ops_of (work ∷ [])))) r.answered.calls
            ∙ (sym (numbered-append 1 (ops_of r.done) (take s.1.made (ops_of (work ∷ []))) (w.last + 1) (omega (arith, last_is)))
            ∙ ap (numbered 1) (sym (ap (take (length (ops_of r.done) + length (take s.1.made (ops_of (work ∷ []))))) ops ∙ front_of_whole (ops_of r.done) s.1.made (ops_of (work ∷ [])) (ops_of more)))));
        replies = s.1.replies ∙ (ap (λ rs. rs ++ numbered (w.last + 1) s.0) r.answered.replies
            ∙ sym (numbered-append 1 r.answers s.0 (w.last + 1) (omega (arith, last_is, each_then))));
        few = omega (arith, answers_long, each_then, few, ops_long, rest_long, whole_long);
      },
      front_written old mid new (printed r.done r.answers) (print number (line_answers (work ∷ []) s.0)) (print (number + length (line_answers (work ∷ []) s.0)) tail.0) _ text r.written s.2,
    )

take_all : {A : Type 0} (xs : List A) → take (length xs) xs ≡ xs
take_all [] = refl
take_all (x ∷ xs) = ap (λ ys. x ∷ ys) (take_all xs)

-- an answered line may be left
left_answered : (w v : World) (work : Work) (a : LineAnswer) (h : AnswersLine w v work a) → LeavesLine w v work h.answers
left_answered w v work a h = record {
  reached = h.quiet.reached;
  made = length (ops_of (work ∷ []));
  few = let e = h.each in omega (arith, e);
  calls = h.calls ∙ ap (λ os. calls_of w.events ++ numbered (w.last + 1) os) (sym (take_all (ops_of (work ∷ []))));
  replies = h.replies;
}

pub stops_unwritten : (w v : World) (number : ℕ) (work : Work) (answers : List Answer) (old : Option (List ℕ)) → LeavesLine w v work answers → StopsLine w v number work old old
stops_unwritten w v number work answers old h = (answers, h, nothing_written old _)

pub stops_answered : (w v : World) (number : ℕ) (work : Work) (a : LineAnswer) (old : Option (List ℕ)) → AnswersLine w v work a → StopsLine w v number work old old
stops_answered w v number work a old h = stops_unwritten w v number work h.answers old (left_answered w v work a h)

pub stops_written : (w v : World) (number : ℕ) (work : Work) (a : LineAnswer) (old new : Option (List ℕ)) → AnswersLine w v work a → AppendsFront old (print_line number a) new → StopsLine w v number work old new
stops_written w v number work a old new h front =
    (h.answers, left_answered w v work a h, subst (λ bytes. AppendsFront old bytes new) (sym (ap (print number) h.is ∙ none_more (print_line number a))) front)
