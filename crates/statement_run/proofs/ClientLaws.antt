-- The laws of a client.
use Rattle.std.proofs.Common.{◌≡◌, ℕ, List, [], ◌∷◌, ◌++◌, Option, Some, None, Bool, true, false, cond, refl, ap, sym, ◌∙◌, arith, eqb-true}
use Rattle.std.specs.Prelude.{◌==◌, ◌||◌, not, if◌then◌else◌}
use Rattle.std.specs.List.{list_any}
use Rattle.std.proofs.lemmas.Bool.{cond-true, and_parts, and_from, eq-eqb}
use Rattle.std.proofs.lemmas.Option.{same_Some, none-some}
use Rattle.graph_model.specs.declared.answer.Answer.{Answer}
use Rattle.graph_model.specs.declared.answer.Answer.TheVariants.{Conflict, Cancelled, Unknown}
use Rattle.graph_model.specs.declared.call_id.CallId.{CallId}
use Rattle.chain_leader.specs.declared.body.About.TheVariants as about
use Rattle.chain_leader.specs.declared.body.ChainBody.{ChainBody}
use Rattle.chain_leader.specs.declared.body.ChainBody.TheVariants as says
use Rattle.replica_model.specs.declared.packet.Body.{Body}
use Rattle.replica_model.specs.declared.packet.Body.TheVariants as body
use Rattle.statement_run.specs.Statement.{is_last}
use Rattle.statement_run.specs.Caller.{Open, Due, Caller, answers as fits_call, fits, is_shown, is_read, counted, rounded_from, hears_by, hears_of}
use Rattle.statement_run.specs.Laws.{StopsBehind, FirstCounts, IsAnswer, AnswersOpen, HearsAnswer, UsesHint, CountsOn}

-- an answer behind others is one of them
any_behind : (answers : List Answer) (answer : Answer) → is_last answer ≡ true → list_any is_last (answers ++ answer ∷ []) ≡ true
any_behind [] answer is = ap (λ b. b || false) is
any_behind (x ∷ answers) answer is = go (is_last x) (any_behind answers answer is)
  where
    go : (b : Bool) → list_any is_last (answers ++ answer ∷ []) ≡ true → (b || list_any is_last (answers ++ answer ∷ [])) ≡ true
    go true later = refl
    go false later = later

stops : (answer : Answer) → is_last answer ≡ true → StopsBehind answer
stops answer is statement answers = cond-true (list_any is_last (answers ++ answer ∷ [])) None (statement.calls (answers ++ answer ∷ [])) (any_behind answers answer is)

pub behind_conflict : (other : CallId) → StopsBehind (Conflict other)
behind_conflict other = stops (Conflict other) refl

pub behind_cancelled : StopsBehind Cancelled
behind_cancelled = stops Cancelled refl

pub behind_unknown : StopsBehind Unknown
behind_unknown = stops Unknown refl

-- Shown answers a read, and a read alone
same_kind : (read shown : Bool) → (if read then shown else not shown) ≡ true → shown ≡ read
same_kind true shown e = e
same_kind false true e = sym e
same_kind false false e = refl

kind_fits : (read shown : Bool) → shown ≡ read → (if read then shown else not shown) ≡ true
kind_fits true shown e = e
kind_fits false true e = sym e
kind_fits false false e = refl

-- while a Reply is due nothing counts
module _ (c : Caller) where
  deaf : (o : Option Open) (d : Due) (k : ℕ) (b : Body) → hears_by c o (Some d) k b ≡ c
  deaf None d k b = refl
  deaf (Some call) d k (body.Raft message) = refl
  deaf (Some call) d k (body.Chain said) = refl

  pub first_counts : FirstCounts c
  first_counts d is packet k = ap (λ o. hears_by c c.call o k packet.body) is ∙ deaf c.call d k packet.body

  -- what makes a Reply due
  module _ (free : c.due ≡ None) (k : ℕ) (d : Due) where
    never : {A : Type 0} → c.due ≡ Some d → A
    never is = absurd (none-some d (sym free ∙ is))

    by_answer : (call : Open) → c.call ≡ Some call → (number : ℕ) (answer : Answer) (b : Bool) → fits_call call number answer ≡ b
        → (cond b (record c { due = Some (record { answer = answer; packet = k }) }) c).due ≡ Some d → IsAnswer c (body.Chain (says.Answer number answer)) k d
    by_answer call its number answer true fit is =
        let parts = and_parts (number == call.id.number) (fits answer call.op) fit in
        let same = same_Some (record { answer = answer; packet = k }) d is in
        record {
          call = call;
          its = its;
          said = ap (λ n. body.Chain (says.Answer n answer)) (eqb-true number call.id.number parts.0) ∙ ap (λ (x : Due). body.Chain (says.Answer call.id.number x.answer)) same;
          kind = same_kind (is_read call.op) (is_shown d.answer) (ap (λ (x : Due). fits x.answer call.op) (sym same) ∙ parts.1);
          packet = ap (λ (x : Due). x.packet) (sym same);
        }
    by_answer call its number answer false fit is = never is

    by_hint : (call : Open) (number hint : ℕ) (b : Bool) → (cond b (record c { call = Some (record call { hint = hint }) }) c).due ≡ Some d → c.due ≡ Some d
    by_hint call number hint true is = is
    by_hint call number hint false is = is

    by_body : (call : Open) → c.call ≡ Some call → (said : ChainBody) → (hears_of c call k said).due ≡ Some d → IsAnswer c (body.Chain said) k d
    by_body call its (says.Answer number answer) is = by_answer call its number answer (fits_call call number answer) refl is
    by_body call its (says.NotLeader (about.Call number) part hint) is = never (by_hint call number hint (number == call.id.number) is)
    by_body call its (says.NotLeader (about.Chain v) part hint) is = never is
    by_body call its (says.Request number x) is = never is
    by_body call its (says.Remote term v list) is = never is
    by_body call its (says.Done term v) is = never is
    by_body call its (says.Stale term v above) is = never is
    by_body call its (says.Fence term v edges) is = never is
    by_body call its (says.Fenced term v written) is = never is
    by_body call its (says.Resume term after) is = never is

    by_packet : (o : Option Open) → c.call ≡ o → (b : Body) → (hears_by c o None k b).due ≡ Some d → IsAnswer c b k d
    by_packet None its b is = never is
    by_packet (Some call) its (body.Raft message) is = never is
    by_packet (Some call) its (body.Chain said) is = by_body call its said is

  pub answers_open : AnswersOpen c
  answers_open free packet k d is = by_packet free k d c.call refl packet.body (sym (ap (λ o. (hears_by c c.call o k packet.body).due) free) ∙ is)

  -- while none is due, an Answer of the open call makes its Reply due
  pub hears_answer : HearsAnswer c
  hears_answer call its free packet k answer said kind =
      let fit = and_from (call.id.number == call.id.number) (fits answer call.op) (eq-eqb call.id.number call.id.number refl) (kind_fits (is_read call.op) (is_shown answer) kind) in
      ap (λ o. (hears_by c o c.due k packet.body).due) its
      ∙ ap (λ o. (hears_by c (Some call) o k packet.body).due) free
      ∙ ap (λ b. (hears_by c (Some call) None k b).due) said
      ∙ ap (λ (x : Caller). x.due) (cond-true (fits_call call call.id.number answer) (record c { due = Some (record { answer = answer; packet = k }) }) c fit)

  hint_of : (o : Option Open) → c.call ≡ o → (call : Open) → (rounded_from c o).call ≡ Some call → call.hint ≡ 0
  hint_of None its call is = absurd (none-some call (sym its ∙ is))
  hint_of (Some before) its call is = ap (λ (x : Open). x.hint) (sym (same_Some (record (counted before) { hint = 0 }) call is))

  pub uses_hint : UsesHint c
  uses_hint call is = hint_of c.call refl call is

pub counts_on : (call : Open) → CountsOn call
counts_on call = record { rises = λ below. omega arith; ends = omega arith }
