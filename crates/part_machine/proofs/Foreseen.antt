-- What a plan tells ahead is what the table makes.
use Rattle.std.proofs.Common.{◌≡◌, ℕ, suc, List, [], ◌∷◌, Option, Some, None, Bool, true, false, map, refl, ap, sym, subst, ◌∙◌, arith}
use Rattle.std.specs.Prelude.{◌==◌, ◌&&◌}
use Rattle.std.specs.FinMap.{get, contains_key}
use Rattle.std.specs.List.{slice_get}
use Rattle.std.specs.Option.{option_map}
use Rattle.std.proofs.lemmas.Bool.{cond_both, eqb-true, eq-eqb, false≢true}
use Rattle.std.proofs.lemmas.Option.{slice_get-map}
use Rattle.kv_part.specs.Store.{Contents, written}
use Rattle.maps.specs.Maps.{with_at}
use Rattle.maps.proofs.Keys.{nat_keys, apart_of_ne}
use Rattle.maps.proofs.Updates.{with_at_here, with_at_apart}
use Rattle.graph_model.specs.declared.op.Op.{Op}
use Rattle.graph_model.specs.declared.op.Op.TheVariants.{PutVertex, DelVertex}
use Rattle.graph_model.specs.declared.call_id.CallId.{CallId}
use Rattle.part_keys.specs.declared.chain.PrimeRec.{PrimeRec}
use Rattle.part_keys.specs.declared.entry.PartEntry.{PartEntry}
use Rattle.part_keys.specs.declared.entry.PartEntry.TheVariants.{Prime, Local, Double, Close, Abort, Remote, Fence, Vertex, Read}
use Rattle.part_rules.specs.declared.applied.Applied.{Applied}
use Rattle.part_rules.specs.declared.applied.Applied.TheVariants.{Begun}
use Rattle.part_rules.specs.Part.{Part, is_stale}
use Rattle.part_rules.specs.Machine.{applied, vertex_written}
use Rattle.part_rules.proofs.FoldsCases.{new_cases, prime_cases, local_cases, double_cases, close_cases, abort_cases}
use Rattle.part_store.specs.declared.setting.Setting.{Setting}
use Rattle.part_machine.specs.Ahead.{answers, begun_behind, beginnings, turn_begun, plan_begun}
use Rattle.part_machine.specs.Chains.{Chains, standing, turned}
use Rattle.part_machine.specs.Machine.{IsMachine}
use Rattle.part_machine.specs.Plans.{IsState, IsNext, IsPlan, ArePlans}
use Rattle.part_machine.specs.declared.machine.Machine.{Machine}
use Rattle.part_machine.specs.declared.plan.Plan.{Plan}
use Rattle.part_machine.specs.declared.turn.Turn.{Turn}

-- a chain that begins has the index of its entry
abbrev Begins : ℕ → Part × Applied → Type 0
Begins index behind = (v : ℕ) → behind.1 ≡ Begun v → v ≡ index

module _ (parts index : ℕ) (p : Part) where
  change_begins : (id : CallId) (op : Op) → Begins index (vertex_written p id op)
  change_begins id (PutVertex v tag row absent) = cond_both (absent && contains_key p.tags (record { vid = v; tag = tag })) _ _ (Begins index) (λ _ w e. absurd cc) (λ _ w e. absurd cc)
  change_begins id (DelVertex v) = λ w e. absurd cc
  change_begins id other = λ w e. absurd cc

  begins : (entry : PartEntry) → Begins index (applied parts index entry p)
  begins (Prime id list absent) = prime_cases p (Begins index) parts index id list absent (λ v e. absurd cc) (λ o v e. absurd cc) (λ chain on v e. absurd cc) (λ none all v e. absurd cc) (λ none some v e. cc)
  begins (Local v) = local_cases p (Begins index) v (λ w e. absurd cc) (λ chain at once w e. absurd cc)
  begins (Double v) = double_cases p (Begins index) v (λ w e. absurd cc) (λ chain at once w e. absurd cc)
  begins (Close v) = close_cases p (Begins index) v (λ w e. absurd cc) (λ chain at once w e. absurd cc)
  begins (Abort v) = abort_cases p (Begins index) v (λ w e. absurd cc) (λ chain at once w e. absurd cc)
  begins (Remote from term v list) = cond_both (is_stale p from term) _ _ (Begins index) (λ _ w e. absurd cc) (λ _ w e. absurd cc)
  begins (Fence from term v edges) = cond_both (is_stale p from term) _ _ (Begins index) (λ _ w e. absurd cc) (λ _ w e. absurd cc)
  begins (Vertex id op) = new_cases p (Begins index) id (vertex_written p id op) (λ v e. absurd cc) (λ o v e. absurd cc) (change_begins id op)
  begins (Read id query) = λ v e. absurd cc

module _ (s : Setting) (next index : ℕ) (entry : PartEntry) (p : Part) (m : Contents) (chains : Chains) (plan : Plan) (state : IsState s next p m chains) (after : IsNext next index) (is : IsPlan s index entry p m chains plan) where
  -- no chain had the entry's index
  none_at : (o : Option PrimeRec) → get chains index ≡ o → o ≡ None
  none_at None e = refl
  none_at (Some chain) e = let below = state.below index chain e in let risen = after.risen in absurd (omega arith)

  none : get chains index ≡ None
  none = none_at (get chains index) refl

  -- what a turn puts at the index
  put_at : (o : Option Turn) → turn_begun (Begun index) o ≡ get (turned chains o) index
  put_at None = sym none
  put_at (Some turn) = cond_both (turn.at == index) turn.chain None (λ (o : Option PrimeRec). o ≡ get (with_at chains turn.at turn.chain) index)
      (λ same. let at : turn.at ≡ index = eqb-true turn.at index same in
      sym (subst (λ (k : ℕ). get (with_at chains k turn.chain) index ≡ turn.chain) (sym at) (with_at_here nat_keys chains index turn.chain)))
      (λ differs. sym (with_at_apart nat_keys chains turn.at turn.chain index (apart_of_ne nat_keys index turn.at (λ e. absurd (false≢true (sym differs ∙ eq-eqb turn.at index (sym e))))) ∙ none))

  begun_by_answer : (a : Applied) → ((v : ℕ) → a ≡ Begun v → v ≡ index) → turn_begun a plan.turn ≡ begun_behind (applied s.parts index entry p).0 a
  begun_by_answer (Begun v) own =
      subst (λ (k : ℕ). turn_begun (Begun k) plan.turn ≡ get (applied s.parts index entry p).0.chains k) (sym (own v refl))
      (put_at plan.turn ∙ ap (λ (c : Chains). get c index) is.state.same)
  begun_by_answer other own = refl

  pub begun_is : plan_begun plan ≡ begun_behind (applied s.parts index entry p).0 (applied s.parts index entry p).1
  begun_is = ap (λ (a : Applied). turn_begun a plan.turn) is.answer ∙ begun_by_answer (applied s.parts index entry p).1 (begins s.parts index p entry)

-- the answers of plans, and the chains that begin with them
pub answers_are : (s : Setting) (next : ℕ) (p : Part) (m : Contents) (chains : Chains) (plans : List Plan) (entries : List (ℕ × PartEntry)) → ArePlans s next p m chains plans entries → map (λ (plan : Plan). plan.answer) plans ≡ answers s.parts p entries
answers_are s next p m chains [] [] are = refl
answers_are s next p m chains [] (x ∷ entries) are = absurd are
answers_are s next p m chains (plan ∷ plans) [] are = absurd are
answers_are s next p m chains (plan ∷ plans) (x ∷ entries) are =
    λ i. are.1.answer i ∷ answers_are s (suc x.0) (applied s.parts x.0 x.1 p).0 (written m plan.batch) (turned chains plan.turn) plans entries are.2 i

pub beginnings_are : (s : Setting) (next : ℕ) (p : Part) (m : Contents) (chains : Chains) (plans : List Plan) (entries : List (ℕ × PartEntry)) → IsState s next p m chains → ArePlans s next p m chains plans entries → map plan_begun plans ≡ beginnings s.parts p entries
beginnings_are s next p m chains [] [] state are = refl
beginnings_are s next p m chains [] (x ∷ entries) state are = absurd are
beginnings_are s next p m chains (plan ∷ plans) [] state are = absurd are
beginnings_are s next p m chains (plan ∷ plans) (x ∷ entries) state are =
    λ i. begun_is s next x.0 x.1 p m chains plan state are.0 are.1 i ∷ beginnings_are s (suc x.0) (applied s.parts x.0 x.1 p).0 (written m plan.batch) (turned chains plan.turn) plans entries are.1.state are.2 i

-- what the plan at a place tells of the entry there
module _ {S : Type 0} (meaning : S → Contents) (has : S → List ℕ → Bool) (p : Part) (entries : List (ℕ × PartEntry)) (a : Machine S) (is : IsMachine meaning has p entries a) (place : ℕ) where
  pub answer_at : option_map (λ (plan : Plan). plan.answer) (slice_get a.plans.items place) ≡ slice_get (answers a.setting.parts p entries) place
  answer_at =
      sym (slice_get-map (λ (plan : Plan). plan.answer) a.plans.items place)
      ∙ ap (λ (told : List Applied). slice_get told place) (answers_are a.setting a.next p (meaning a.store) (standing a.chains.entries) a.plans.items entries is.planned)

  pub begun_at : option_map plan_begun (slice_get a.plans.items place) ≡ slice_get (beginnings a.setting.parts p entries) place
  begun_at =
      sym (slice_get-map plan_begun a.plans.items place)
      ∙ ap (λ (begun : List (Option PrimeRec)). slice_get begun place) (beginnings_are a.setting a.next p (meaning a.store) (standing a.chains.entries) a.plans.items entries is.state is.planned)
