-- What an entry leads to: a graph that goes on from the one before, of which all holds again.
use Rattle.std.proofs.Common.{◌≡◌, ◌≢◌, inl, inr, ℕ, ◌<◌, ◌≤◌, List, [], Option, Some, true, false, ◌&&◌, refl, ap, sym, subst, ◌∙◌}
use Rattle.std.specs.Prelude.{◌==◌}
use Rattle.std.specs.FinMap.{get, insert, remove}
use Rattle.std.specs.Option.{option_map}
use Rattle.std.specs.Ordering.{nat_cmp, eq_by_cmp}
use Rattle.std.proofs.lemmas.Bool.{and_from, eq-eqb}
use Rattle.graph_model.specs.declared.answer.Answer.{Answer}
use Rattle.graph_model.specs.declared.call_id.CallId.{CallId}
use Rattle.graph_model.specs.declared.graph_step.GStep.{GStep}
use Rattle.graph_model.specs.Lookups.{holds_of, is_right}
use Rattle.graph_model.specs.State.{GraphState}
use Rattle.graph_model.specs.Run.{Run}
use Rattle.maps.specs.Maps.{altered}
use Rattle.maps.proofs.Keys.{nat_keys, same_or_apart, same_itself}
use Rattle.maps.proofs.Updates.{insert_here, insert_apart, remove_apart, altered_here, altered_apart}
use Rattle.part_keys.specs.Routing.{part_of}
use Rattle.part_rules.specs.declared.kept.Kept.{Kept}
use Rattle.part_rules.specs.Part.{Part}
use Rattle.chain_world.specs.Course.{Course, Courses, with_course, prime_of}
use Rattle.chain_world.specs.Invariant.ChainFacts.{AreChains, GoOn}
use Rattle.chain_world.specs.Invariant.Sound.{AreKept, Holds, kept_of}
use Rattle.chain_world.proofs.Setting.{set_at, set_split, set_here, set_same}
use Rattle.chain_world.proofs.Pends.{place_split, course_here, course_apart}
use Rattle.chain_world.proofs.Clients.{KeptMoves, calls_same}
use Rattle.chain_world.proofs.Courses.{nothing_changes}
use Rattle.chain_world.proofs.EdgesHalves.{halves_same}
use Rattle.chain_world.proofs.EdgesIn.{kept_same}
use Rattle.chain_world.proofs.Progress.{Progress, no_progress, go_still}

-- What an entry leads to, with these machines and courses behind it: its steps are a run from the graph before, all holds
-- of the graph behind them, calls and chains have gone on, and what the call's client is told is right.
pub record Reaches (parts : ℕ) (machine : ℕ → Part) (next : ℕ → ℕ) (before k : Courses) (g : GraphState) (steps : List GStep) (told : Option (CallId × Answer)) : Type 0 where
  pub graph : GraphState
  pub run : Run g steps graph
  pub holds : Holds parts machine next k graph
  pub progress : Progress (get g.calls) (get graph.calls)
  pub courses : GoOn before k
  pub rightly : (i : CallId) (a : Answer) → told ≡ Some (i, a) → holds_of (is_right a) (get graph.calls i) ≡ true

-- the next index of a part rises
pub record Rises (next later : ℕ → ℕ) (p : ℕ) : Type 0 where
  pub all : (q : ℕ) → next q ≤ later q
  pub here : next p < later p

-- a map by numbers
nat_apart : (a b : ℕ) → eq_by_cmp nat_cmp a b ≡ false → a ≢ b
nat_apart a b apart same = let t : true ≡ false = sym (same_itself nat_keys b) ∙ ap (λ x. eq_by_cmp nat_cmp x b) (sym same) ∙ apart in cc

module _ (parts : ℕ) (machine : ℕ → Part) (next : ℕ → ℕ) (k : Courses) (g : GraphState) (holds : Holds parts machine next k g) (p : ℕ) (x : Part) where
  -- the parts' clients where p's stay, and where one number is kept anew
  pub clients_stay : x.clients ≡ (machine p).clients → (q d : ℕ) → get (set_at machine p x q).clients d ≡ get (machine q).clients d
  clients_stay same q d = ap (λ m. get m d) (set_same machine p x (λ (y : Part). y.clients) same q)

  -- what a part keeps of one client changes: as said at that client
  kept_moves : (c : ℕ) (now : Option Kept) → get x.clients c ≡ now → ((d : ℕ) → d ≢ c → get x.clients d ≡ get (machine p).clients d)
      → KeptMoves (λ q. get (machine q).clients) (λ q. get (set_at machine p x q).clients) p c now
  kept_moves c now here others = record {
    here = ap (λ (y : Part). get y.clients c) (set_here machine p x) ∙ here;
    each = λ q d. elim (set_split machine p x q) [
      | inl at ↦ elim (same_or_apart nat_keys d c) [
        | inl same ↦ inl (at.0, same)
        | inr apart ↦ inr (λ _ same. nat_apart d c apart same, ap (λ (y : Part). get y.clients d) at.1 ∙ others d (nat_apart d c apart) ∙ ap (λ i. get (machine i).clients d) (sym at.0))
      ]
      | inr elsewhere ↦ inr (λ same _. elsewhere.0 same, ap (λ (y : Part). get y.clients d) elsewhere.1)
    ];
  }

  -- a number is kept anew
  pub client_put : (c : ℕ) (now : Kept) → x.clients ≡ insert (machine p).clients c now
      → KeptMoves (λ q. get (machine q).clients) (λ q. get (set_at machine p x q).clients) p c (Some now)
  client_put c now is = kept_moves c (Some now) (ap (λ m. get m c) is ∙ insert_here nat_keys (machine p).clients c now)
      (λ d other. ap (λ m. get m d) is ∙ elim (same_or_apart nat_keys d c) [ inl same ↦ absurd (other same) | inr apart ↦ insert_apart nat_keys (machine p).clients c now d apart ])

  -- what is kept is altered
  pub client_altered : (c : ℕ) (f : Kept → Kept) → x.clients ≡ altered (machine p).clients c f
      → KeptMoves (λ q. get (machine q).clients) (λ q. get (set_at machine p x q).clients) p c (option_map f (get (machine p).clients c))
  client_altered c f is = kept_moves c _ (ap (λ m. get m c) is ∙ altered_here nat_keys (machine p).clients c f)
      (λ d other. ap (λ m. get m d) is ∙ elim (same_or_apart nat_keys d c) [ inl same ↦ absurd (other same) | inr apart ↦ altered_apart nat_keys (machine p).clients c f d apart ])

  -- the chains that a part keeps: as before, or with one that is another now
  pub kept_stay : x.chains ≡ (machine p).chains → AreKept (set_at machine p x) k
  kept_stay same q v = ap (λ m. get m v) (set_same machine p x (λ (y : Part). y.chains) same q) ∙ holds.kept q v

  -- the chains with one that is another now
  pub kept_goes : (v : ℕ) (o : Option Course) → get x.chains v ≡ prime_of v o → ((w : ℕ) → w ≢ v → get x.chains w ≡ get (machine p).chains w)
      → AreKept (set_at machine p x) (with_course k p v o)
  kept_goes v o here others q w = elim (place_split p v q w) [
    | inl same ↦
        (let a : get (set_at machine p x q).chains w ≡ get x.chains v = ap (λ i. get (set_at machine p x i).chains w) same.0 ∙ ap (λ (y : Part). get y.chains w) (set_here machine p x) ∙ ap (get x.chains) same.1 in
        a ∙ here ∙ ap (prime_of v) (sym (course_here k p v o)) ∙ ap (λ i. prime_of i (with_course k p v o p i)) (sym same.1) ∙ ap (λ i. prime_of w (with_course k p v o i w)) (sym same.0))
    | inr apart ↦ elsewhere apart ∙ holds.kept q w ∙ ap (prime_of w) (sym (course_apart k p v o q w apart))
  ]
    where
      elsewhere : ((q == p) && (w == v)) ≡ false → get (set_at machine p x q).chains w ≡ get (machine q).chains w
      elsewhere apart = elim (set_split machine p x q) [
        | inl at ↦ ap (λ (y : Part). get y.chains w) at.1 ∙ others w (λ same. let t : false ≡ true = sym apart ∙ and_from (q == p) (w == v) (eq-eqb q p at.0) (eq-eqb w v same) in cc) ∙ ap (λ i. get (machine i).chains w) (sym at.0)
        | inr other ↦ ap (λ (y : Part). get y.chains w) other.1
      ]

  -- a chain that is taken out of a part's chains leaves the others
  pub taken_out : (v : ℕ) → x.chains ≡ remove (machine p).chains v → (w : ℕ) → w ≢ v → get x.chains w ≡ get (machine p).chains w
  taken_out v is w other = ap (λ m. get m w) is ∙ elim (same_or_apart nat_keys w v) [ inl same ↦ absurd (other same) | inr apart ↦ remove_apart nat_keys (machine p).chains v w apart ]

  -- the numbers of in-halves stay where the in-halves do
  pub numbers_stay : x.inn ≡ (machine p).inn → (later : ℕ → ℕ) (l : Courses) → AreChains (part_of parts) l later (kept_of parts machine) → AreChains (part_of parts) l later (kept_of parts (set_at machine p x))
  numbers_stay same later l are = subst (AreChains (part_of parts) l later) (λ i e. sym (kept_same parts machine p x 0 [] same e) i) are

  -- an entry that leaves all but perhaps the guards
  pub still : x.tags ≡ (machine p).tags → x.out ≡ (machine p).out → x.inn ≡ (machine p).inn → x.chains ≡ (machine p).chains → x.clients ≡ (machine p).clients
      → (later : ℕ → ℕ) → Rises next later p → (told : Option (CallId × Answer)) → ((i : CallId) (a : Answer) → told ≡ Some (i, a) → holds_of (is_right a) (get g.calls i) ≡ true)
      → Reaches parts (set_at machine p x) later k k g [] told
  still tags out inn chains clients later rises told rightly = record {
    graph = g;
    run = refl;
    holds = record {
      halves = halves_same parts machine p x g.contents holds.halves tags out inn;
      chains = numbers_stay inn later k (nothing_changes (part_of parts) k next (kept_of parts machine) holds.chains later rises.all);
      kept = kept_stay chains;
      pends = holds.pends;
      calls = calls_same parts (λ q. get (machine q).clients) (get g.calls) holds.calls (λ q. get (set_at machine p x q).clients) (clients_stay clients);
    };
    progress = no_progress (get g.calls) (get g.calls) (λ i. refl);
    courses = go_still k;
    rightly = rightly;
  }
