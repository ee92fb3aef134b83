-- The insertion that was worked by hand, doing by doing. What a step looks up in a map is worked out first.
use Rattle.std.proofs.Common.{◌≡◌, inl, ℕ, Bool, List, [], ◌∷◌, ◌++◌, Option, None, Some, true, false, refl, ap, sym, subst, ◌∙◌, arith}
use Rattle.std.specs.Prelude.{◌||◌, not, if◌then◌else◌}
use Rattle.std.specs.List.{list_any}
use Rattle.std.specs.FinMap.{empty, insert, remove, contains_key}
use Rattle.raft_core.specs.Core.{Core}
use Rattle.raft_core.specs.declared.input.RaftInput.TheVariants as raft
use Rattle.raft_core.specs.Step.{stepped as raft_stepped}
use Rattle.graph_model.specs.declared.answer.Answer.TheVariants.{Fine}
use Rattle.part_keys.specs.declared.chain.PrimeRec.{PrimeRec}
use Rattle.part_keys.specs.declared.chain.Policy.TheVariants.{Forward}
use Rattle.part_keys.specs.declared.entry.PartEntry.TheVariants as entry
use Rattle.part_keys.specs.declared.proposal.Proposal.TheVariants.{Start, Members, Made}
use Rattle.part_keys.specs.declared.vid_kind.VidKind.TheVariants.{Num}
use Rattle.part_rules.specs.declared.applied.Applied.{Applied}
use Rattle.part_rules.specs.declared.applied.Applied.TheVariants as told
use Rattle.part_rules.specs.declared.kept.Outcome.TheVariants as kept
use Rattle.part_rules.specs.Part.{Part, blank}
use Rattle.part_rules.specs.Folded.{folded}
use Rattle.part_rules.specs.Machine as machines
use Rattle.part_rules.specs.Machine.{writes}
use Rattle.part_rules.proofs.Computing.{computing}
use Rattle.chain_leader.specs.declared.body.ChainBody.TheVariants as says
use Rattle.chain_leader.specs.declared.letter.Letter.{Letter}
use Rattle.chain_leader.specs.declared.letter.Letter.TheVariants.{Tell, Cross, Back, Again}
use Rattle.chain_leader.specs.Rules.{Table}
use Rattle.chain_leader.specs.Leading.{Leading, Taken, Applies, taken, on_item}
use Rattle.chain_world.specs.Ledger.{Ledger, remote_steps, primed_steps, ended_steps}
use Rattle.replica_model.specs.declared.packet.Place.{Place}
use Rattle.replica_model.specs.declared.packet.Place.TheVariants as place
use Rattle.replica_model.specs.declared.packet.Packet.{Packet}
use Rattle.replica_model.specs.declared.packet.To.TheVariants as to
use Rattle.replica_model.specs.declared.packet.Body.TheVariants as body
use Rattle.replica_model.specs.declared.input.Input.TheVariants as input
use Rattle.replica_model.specs.declared.input.Tick.TheVariants.{Elect}
use Rattle.replica_model.specs.Letters.{used, is_about, packet_of, packets_of, then_works}
use Rattle.replica_model.specs.Replica.{Home, Replica, created, no_senders, no_hints}
use Rattle.replica_model.specs.Asks.{offers}
use Rattle.replica_model.specs.Stepped.{Stepped, stepped, does, raft_behind}
use Rattle.world_model.specs.declared.event.Event.{Event}
use Rattle.world_model.specs.State.{home_of, Up, State, start}
use Rattle.world_model.specs.After.{Doing, Noted, done, peer_moves, ledger_behind}
use Rattle.world_model.specs.Lawful.{Lawful, MayDo, IsDue}
use Rattle.world_model.specs.Journal.{space_at, Run}
use Rattle.world_model.specs.SmallSpelling.{small}
use Rattle.world_model.specs.Worked.{alone}
use Rattle.world_model.specs.WorkedChain.{halves, call, prime_bytes, remote_bytes, local_bytes, newly, standing, ending, primed, ended, the_sender, written, remote_packet, and_decided, e1, e2, e3, e4, e5, e7, e8, e9, e10, e11, e12, s1, s2, s3, s4, s5, s6, s7, s8, s9, s10, s11, s12, until_remote, IsInsertion}

-- Where no chain has a hint, none has one behind a step.
none_left : (b : Bool) → ◌≡◌ {A = ℕ} (if b then 0 else 0) 0
none_left true = refl
none_left false = refl

pub no_hints_left : (t : Table) (letters : List Letter) → used no_hints t letters ≡ no_hints
no_hints_left t letters = λ i v. none_left (list_any (is_about v) letters || not (contains_key t v)) i

abbrev pub with_hints : Stepped → (ℕ → ℕ) → Stepped
with_hints made hints = record made { replica = record made.replica { hints = hints } }

-- 1. What the leaders make of the entries, and the Done.
abbrev pub ready : Table → Leading
ready table = record { ready = true; policy = Forward; table = table }

abbrev rec : PrimeRec
rec = record { v = 3; id = call; remote = 1; list = halves; double = false }

abbrev pub stands : Part
stands = record blank { chains = insert empty 3 rec; clients = insert empty 5 (record { number = 1; outcome = kept.Open }) }

begins : machines.applied 2 3 (entry.Prime call halves false) blank ≡ (stands, told.Begun 3)
begins = simp computing

takes_up : on_item 2 1 blank (ready empty) 3 (1, Made (entry.Prime call halves false)) ≡ record { leading = ready standing; answers = []; rules = Cross 1 0 (says.Remote 1 3 halves) ∷ [] }
takes_up = simp computing

answers : on_item 2 1 blank (ready empty) 3 (1, Made (entry.Remote 2 1 3 halves)) ≡ record { leading = ready empty; answers = Back (says.Done 1 3) ∷ []; rules = [] }
answers = simp computing

pub writes_it : writes (entry.Remote 2 1 3 halves) blank ≡ true
writes_it = simp computing

asks : (m : Part) → taken Num 2 2 1 m (ready standing) (says.Done 1 3) 1 ≡ record { leading = ready ending; proposals = entry.Local 3 ∷ []; letters = [] }
asks m = simp computing

pub settles : (machines.applied 2 4 (entry.Local 3) stands).1 ≡ told.Settled call
settles = simp computing

tells : on_item 2 1 stands (ready ending) 4 (1, Made (entry.Local 3)) ≡ record { leading = ready (remove ending 3); answers = Tell call Fine ∷ []; rules = [] }
tells = simp computing

-- 2. The steps of the leaders. A leader that is alone commits what it proposes at once, and applies it in the same step.
abbrev pub home : ℕ → Home
home p = home_of (space_at small s1) p

abbrev pub after_entry : ℕ → Replica → List ℕ → (ℕ → Option Place) → Option Place → Applies → Stepped
after_entry p r bytes senders sender a =
    raft_behind (home p) r.core.me (raft_stepped r.core (raft.Propose bytes)) (record {
      on = true;
      senders = senders;
      hints = no_hints;
      rows = [];
      worked = then_works (packets_of p r.core.me r.core.term (λ v. 0) sender) a (record { leading = a.leading; answers = []; rules = [] });
      again = [];
    })

abbrev request : Packet
request = record { from = place.Client 5; to = to.Part 2 0; body = body.Chain (says.Request 1 (entry.Prime call halves false)) }

abbrev stepped_prime : Stepped
stepped_prime = after_entry 2 newly prime_bytes no_senders None (record { leading = ready standing; answers = []; rules = Cross 1 0 (says.Remote 1 3 halves) ∷ [] })

step_prime : stepped (home 2) newly (input.Sent request) ≡ with_hints stepped_prime no_hints
step_prime = ap (after_entry 2 newly prime_bytes no_senders None) takes_up ∙ ap (with_hints stepped_prime) (no_hints_left standing (Cross 1 0 (says.Remote 1 3 halves) ∷ []))

abbrev stepped_remote : Stepped
stepped_remote = after_entry 1 newly remote_bytes the_sender (Some (place.Peer 2 1)) (record { leading = ready empty; answers = Back (says.Done 1 3) ∷ []; rules = [] })

step_remote : stepped (home 1) newly (input.Sent remote_packet) ≡ with_hints stepped_remote no_hints
step_remote = ap (after_entry 1 newly remote_bytes the_sender (Some (place.Peer 2 1))) answers ∙ ap (with_hints stepped_remote) (no_hints_left empty [])

-- the step behind the Done, by what the leader takes from it
abbrev pub stepped_local : Stepped
stepped_local = after_entry 2 primed local_bytes no_senders None (record { leading = ready (remove ending 3); answers = Tell call Fine ∷ []; rules = [] })

abbrev pub done_from : ℕ → Packet
done_from y = packet_of 1 y (to.Peer 2 1) (says.Done 1 3)

abbrev after_done : ℕ → Taken → Stepped
after_done y tk = does (home 2) primed (input.Sent (done_from y)) (offers small tk None)

abbrev pub part_behind : Part
part_behind = folded 2 ((0, Members alone) ∷ (1, Start) ∷ (1, Made (entry.Prime call halves false)) ∷ [])

pub part_stands : part_behind ≡ stands
part_stands = ap (λ (r : Part × Applied). r.0) begins

pub step_local : (y : ℕ) → stepped (home 2) primed (input.Sent (done_from y)) ≡ with_hints stepped_local no_hints
step_local y =
    ap (after_done y) (asks part_behind)
    ∙ ap (after_entry 2 primed local_bytes no_senders None) (ap (λ m. on_item 2 1 m (ready ending) 4 (1, Made (entry.Local 3))) part_stands ∙ tells)
    ∙ ap (with_hints stepped_local) (no_hints_left (remove ending 3) [])

-- an election of a leader that is alone
abbrev stepped_elect : ℕ → Stepped
stepped_elect p = stepped (home p) (created 1 (Some alone)) (input.Tick (Elect Forward))

step_elect : (p : ℕ) → stepped_elect p ≡ with_hints (stepped_elect p) no_hints
step_elect p = ap (with_hints (stepped_elect p)) (no_hints_left empty (Again None ∷ []))

-- 3. The graph steps of what is decided.
begins_call : ledger_behind (space_at small s7) s7.ledger 2 primed.core ≡ s8.ledger
begins_call = ap (λ (r : Part × Applied). and_decided s7.ledger 2 (1, Made (entry.Prime call halves false)) (primed_steps call r.1)) begins

writes_half : ledger_behind (space_at small s8) s8.ledger 1 written.core ≡ s9.ledger
writes_half = ap (λ wrote. and_decided s8.ledger 1 (1, Made (entry.Remote 2 1 3 halves)) (remote_steps wrote (Some call))) writes_it

ends_call : ledger_behind (space_at small s9) s9.ledger 2 ended.core ≡ s10.ledger
ends_call = ap (λ answer. and_decided s9.ledger 2 (1, Made (entry.Local 3)) (ended_steps answer)) (ap (λ m. (machines.applied 2 4 (entry.Local 3) m).1) part_stands ∙ settles)

-- 4. The run. The world behind a step of a replica, by what the step gives and what the ledger says then.
abbrev pub behind : State → Event → ℕ → ℕ → Core → Stepped → Ledger → State
behind s e p y before made ledger = record (peer_moves (space_at small s) s e p y (Some (record { before = before; made = made })) (Up made.replica)) { ledger = ledger }

pub behind_is : (s : State) (e : Event) (p y : ℕ) (before : Core) (made other : Stepped) (l : Ledger) → made ≡ other → ledger_behind (space_at small s) s.ledger p other.replica.core ≡ l
    → peer_moves (space_at small s) s e p y (Some (record { before = before; made = made })) (Up made.replica) ≡ behind s e p y before other l
behind_is s e p y before made other l same is =
    ap (λ (z : Stepped). peer_moves (space_at small s) s e p y (Some (record { before = before; made = z })) (Up z.replica)) same ∙ ap (behind s e p y before other) is

pub record Runs (s : State) (doings : List Doing) (v : State) : Type 0 where
  pub is : Run small s doings v

pub goes : {s t v : State} {d : Doing} {doings : List Doing} → MayDo (space_at small s) s d → done (space_at small s) s d ≡ t → Runs t doings v → Runs s (d ∷ doings) v
goes {v = v} {doings = doings} may is rest = record { is = (may, subst (λ x. Run small x doings v) (sym is) rest.is) }

pub there : (s : State) → Runs s [] s
there s = record { is = refl }

may1 : Lawful (space_at small (start 2)) (start 2) e1
may1 = record { mail = tt; core = refl; rest = refl }

may2 : Lawful (space_at small s1) s1 e2
may2 = record { mail = tt; core = refl; rest = record { part = refl; peer = omega arith; named = refl; alone = λ z is. absurd is; given = refl } }

may3 : Lawful (space_at small s2) s2 e3
may3 = record { mail = tt; core = refl; rest = record { part = refl; peer = omega arith; named = refl; alone = λ z is. absurd is; given = refl } }

may4 : Lawful (space_at small s3) s3 e4
may4 = record { mail = tt; core = (_, refl); rest = tt }

may5 : Lawful (space_at small s4) s4 e5
may5 = record { mail = tt; core = (_, refl); rest = tt }

may7 : Lawful (space_at small s6) s6 e7
may7 = record { mail = tt; core = record { client = refl; parts = 2; its = refl; number = refl; whole = refl; bytes = _; spelled = refl }; rest = tt }

may8 : Lawful (space_at small s7) s7 e8
may8 = record { mail = record { post = _; sent = refl }; core = (_, refl); rest = tt }

may9 : Lawful (space_at small s8) s8 e9
may9 = record { mail = record { post = _; sent = refl }; core = (_, refl); rest = tt }

may10 : Lawful (space_at small s9) s9 e10
may10 = record { mail = record { post = _; sent = refl }; core = (_, refl); rest = tt }

may11 : Lawful (space_at small s10) s10 e11
may11 = record { mail = record { post = _; sent = refl }; core = tt; rest = tt }

due : IsDue (s11.callers 5) Fine
due = (_, refl, refl)

may12 : Lawful (space_at small s11) s11 e12
may12 = record { mail = tt; core = record { client = refl; call = _; its = refl; same = refl; ends = inl due }; rest = inl due }

to4 : done (space_at small s3) s3 (Noted e4) ≡ s4
to4 = behind_is s3 e4 1 1 (created 1 (Some alone)).core (stepped_elect 1) (with_hints (stepped_elect 1) no_hints) s4.ledger (step_elect 1) refl

to5 : done (space_at small s4) s4 (Noted e5) ≡ s5
to5 = behind_is s4 e5 2 1 (created 1 (Some alone)).core (stepped_elect 2) (with_hints (stepped_elect 2) no_hints) s5.ledger (step_elect 2) refl

to8 : done (space_at small s7) s7 (Noted e8) ≡ s8
to8 = behind_is s7 e8 2 1 newly.core (stepped (home 2) newly (input.Sent request)) (with_hints stepped_prime no_hints) s8.ledger step_prime begins_call

to9 : done (space_at small s8) s8 (Noted e9) ≡ s9
to9 = behind_is s8 e9 1 1 newly.core (stepped (home 1) newly (input.Sent remote_packet)) (with_hints stepped_remote no_hints) s9.ledger step_remote writes_half

to10 : done (space_at small s9) s9 (Noted e10) ≡ s10
to10 = behind_is s9 e10 2 1 primed.core (stepped (home 2) primed (input.Sent (done_from 1))) (with_hints stepped_local no_hints) s10.ledger (step_local 1) ends_call

pub to_primed : {doings : List Doing} {v : State} → Runs s8 doings v → Runs (start 2) (until_remote ++ doings) v
to_primed rest =
    goes {t = s1} may1 refl (goes {t = s2} may2 refl (goes {t = s3} may3 refl (goes may4 to4 (goes may5 to5 (goes {t = s6} (refl, omega arith, refl) refl (goes {t = s7} may7 refl (goes may8 to8 rest)))))))

from_remote : Runs s8 (Noted e9 ∷ Noted e10 ∷ Noted e11 ∷ Noted e12 ∷ []) s12
from_remote = goes may9 to9 (goes may10 to10 (goes {t = s11} may11 refl (goes {t = s12} may12 refl (there s12))))

pub insertion_runs : IsInsertion
insertion_runs = (to_primed from_remote).is
