-- The move that was worked by hand, doing by doing.
use Rattle.std.proofs.Common.{◌≡◌, ◌≢◌, inl, ℕ, Bool, [], ◌∷◌, None, Some, true, false, refl, ap, sym, ◌∙◌, arith}
use Rattle.std.specs.Prelude.{if◌then◌else◌, ◌==◌}
use Rattle.std.proofs.lemmas.Bool.{false≢true}
use Rattle.std.specs.FinMap.{empty}
use Rattle.member_change.specs.declared.change.Change.TheVariants.{AddLearner, Promote, Remove}
use Rattle.graph_model.specs.declared.answer.Answer.TheVariants.{Fine}
use Rattle.part_keys.specs.declared.entry.PartEntry.TheVariants as entry
use Rattle.part_keys.specs.declared.proposal.Proposal.TheVariants.{Made}
use Rattle.part_rules.specs.Machine as machines
use Rattle.part_rules.specs.Part.{blank}
use Rattle.part_rules.proofs.Computing.{computing}
use Rattle.chain_leader.specs.declared.body.ChainBody.TheVariants as says
use Rattle.chain_leader.specs.declared.letter.Letter.TheVariants.{Back, Again}
use Rattle.chain_leader.specs.Leading.{on_item}
use Rattle.chain_world.specs.Ledger.{remote_steps, ended_steps}
use Rattle.replica_model.specs.declared.packet.Place.TheVariants as place
use Rattle.replica_model.specs.declared.input.Input.{Input}
use Rattle.replica_model.specs.declared.input.Input.TheVariants as input
use Rattle.replica_model.specs.declared.input.Tick.TheVariants as tick
use Rattle.replica_model.specs.Replica.{Replica, created, no_senders, no_hints}
use Rattle.replica_model.specs.Stepped.{Stepped, stepped}
use Rattle.world_model.specs.declared.event.Event.{Event}
use Rattle.world_model.specs.State.{home_of, Up, State}
use Rattle.world_model.specs.After.{Noted, done, peer_moves, ledger_behind, step_on}
use Rattle.world_model.specs.Lawful.{Lawful, IsDue}
use Rattle.world_model.specs.Journal.{space_at}
use Rattle.world_model.specs.SmallSpelling.{small}
use Rattle.world_model.specs.WorkedChain.{halves, call, remote_bytes, newly, primed, remote_packet, and_decided, s8}
use Rattle.world_model.specs.WorkedMove.{log3, log4, log5, log6, row, leads, follows, stands, votes, elected, now_leads, the_sender, p4, p5, p6, p7, p8, p9, p11, p12, p13, p14, p15, m1, m2, m3, m4, m5, m6, m7, m8, m9, m10, m11, m12, m13, m14, m15, m16, m17, m18, m19, m20, m21, m22, m23, m24, m25, m26, m27, m28, m29, m30, u1, u2, u3, u4, u5, u6, u7, u8, u9, u10, u11, u12, u13, u14, u15, u16, u17, u18, u19, u20, u21, u22, u23, u24, u25, u26, u27, u28, u29, u30, IsMove, IsInOrder}
use Rattle.world_model.proofs.WorkedChain.{no_hints_left, with_hints, ready, home, after_entry, stepped_local, step_local, done_from, part_stands, writes_it, settles, behind, behind_is, Runs, goes, there, to_primed}

-- A step of the Raft peer of a replica that has no chain: none has a hint before it or behind it.
raft_to : (s : State) (e : Event) (y : ℕ) (r : Replica) (i : Input) → (stepped (home_of (space_at small s) 1) r i).replica.hints ≡ no_hints
    → peer_moves (space_at small s) s e 1 y (Some (step_on (home_of (space_at small s) 1) r i)) (Up (stepped (home_of (space_at small s) 1) r i).replica)
    ≡ behind s e 1 y r.core (with_hints (stepped (home_of (space_at small s) 1) r i) no_hints) (ledger_behind (space_at small s) s.ledger 1 (stepped (home_of (space_at small s) 1) r i).replica.core)
raft_to s e y r i none =
    let x = stepped (home_of (space_at small s) 1) r i in
    behind_is s e 1 y r.core x (with_hints x no_hints) (ledger_behind (space_at small s) s.ledger 1 x.replica.core) (ap (with_hints x) none) refl

to5 : done (space_at small u4) u4 (Noted m5) ≡ u5
to5 = raft_to u4 m5 1 newly (input.Tick (tick.Change (AddLearner 2))) (no_hints_left empty [])

to6 : done (space_at small u5) u5 (Noted m6) ≡ u6
to6 = raft_to u5 m6 2 (created 2 None) (input.Sent p4) (no_hints_left empty [])

to7 : done (space_at small u6) u6 (Noted m7) ≡ u7
to7 = raft_to u6 m7 1 (leads log3 3 (row 2 3 0 true 3)) (input.Sent p5) (no_hints_left empty [])

to8 : done (space_at small u7) u7 (Noted m8) ≡ u8
to8 = raft_to u7 m8 2 (follows [] 0) (input.Sent p6) (no_hints_left empty [])

to9 : done (space_at small u8) u8 (Noted m9) ≡ u9
to9 = raft_to u8 m9 1 (leads log3 3 (row 2 1 0 true 3)) (input.Sent p7) (no_hints_left empty [])

to12 : done (space_at small u11) u11 (Noted m12) ≡ u12
to12 = raft_to u11 m12 1 (leads log3 3 (row 2 4 3 false 3)) (input.Tick (tick.Change (Promote 2))) (no_hints_left empty [])

to13 : done (space_at small u12) u12 (Noted m13) ≡ u13
to13 = raft_to u12 m13 2 (follows log3 3) (input.Sent p8) (no_hints_left empty [])

to14 : done (space_at small u13) u13 (Noted m14) ≡ u14
to14 = raft_to u13 m14 1 (leads log4 3 (row 2 4 3 true 3)) (input.Sent p9) (no_hints_left empty [])

to16 : done (space_at small u15) u15 (Noted m16) ≡ u16
to16 = raft_to u15 m16 1 (leads log4 4 (row 2 5 4 true 4)) (input.Tick (tick.Transfer 2)) (no_hints_left empty [])

to17 : done (space_at small u16) u16 (Noted m17) ≡ u17
to17 = raft_to u16 m17 2 (follows log4 3) (input.Sent p11) (no_hints_left empty [])

to18 : done (space_at small u17) u17 (Noted m18) ≡ u18
to18 = raft_to u17 m18 1 (leads log4 4 (row 2 5 4 true 4)) (input.Sent p12) (no_hints_left empty [])

to19 : done (space_at small u18) u18 (Noted m19) ≡ u19
to19 = raft_to u18 m19 2 stands (input.Sent p13) (no_hints_left empty [])

to20 : done (space_at small u19) u19 (Noted m20) ≡ u20
to20 = raft_to u19 m20 1 votes (input.Sent p14) (no_hints_left empty [])

to21 : done (space_at small u20) u20 (Noted m21) ≡ u21
to21 = raft_to u20 m21 2 elected (input.Sent p15) (no_hints_left empty (Again None ∷ []))

to22 : done (space_at small u21) u21 (Noted m22) ≡ u22
to22 = raft_to u21 m22 2 (now_leads log5 5 (row 1 6 5 true 5 ∷ []) no_senders) (input.Tick (tick.Change (Remove 1))) (no_hints_left empty [])

-- the Remote at the new peer
answers : on_item 2 2 blank (ready empty) 7 (2, Made (entry.Remote 2 1 3 halves)) ≡ record { leading = ready empty; answers = Back (says.Done 1 3) ∷ []; rules = [] }
answers = simp computing

abbrev leader : Replica
leader = now_leads log6 6 [] no_senders

abbrev stepped_remote : Stepped
stepped_remote = after_entry 1 leader remote_bytes the_sender (Some (place.Peer 2 1)) (record { leading = ready empty; answers = Back (says.Done 1 3) ∷ []; rules = [] })

step_remote : stepped (home 1) leader (input.Sent remote_packet) ≡ with_hints stepped_remote no_hints
step_remote = ap (after_entry 1 leader remote_bytes the_sender (Some (place.Peer 2 1))) answers ∙ ap (with_hints stepped_remote) (no_hints_left empty [])

writes_half : ledger_behind (space_at small u26) u26.ledger 1 stepped_remote.replica.core ≡ u27.ledger
writes_half = ap (λ wrote. and_decided u26.ledger 1 (2, Made (entry.Remote 2 1 3 halves)) (remote_steps wrote (Some call))) writes_it

to27 : done (space_at small u26) u26 (Noted m27) ≡ u27
to27 = behind_is u26 m27 1 2 leader.core (stepped (home 1) leader (input.Sent remote_packet)) (with_hints stepped_remote no_hints) u27.ledger step_remote writes_half

ends_call : ledger_behind (space_at small u27) u27.ledger 2 stepped_local.replica.core ≡ u28.ledger
ends_call = ap (λ answer. and_decided u27.ledger 2 (1, Made (entry.Local 3)) (ended_steps answer)) (ap (λ m. (machines.applied 2 4 (entry.Local 3) m).1) part_stands ∙ settles)

to28 : done (space_at small u27) u27 (Noted m28) ≡ u28
to28 = behind_is u27 m28 2 1 primed.core (stepped (home 2) primed (input.Sent (done_from 2))) (with_hints stepped_local no_hints) u28.ledger (step_local 2) ends_call

-- What is asked of each doing. No replica of part 1 is on node 2 before peer 2.
on_first : (b : Bool) → ◌≢◌ {A = ℕ} (if b then 1 else (if b then 1 else 0)) 2
on_first true e = absurd (omega (arith, e))
on_first false e = absurd (omega (arith, e))

may1 : Lawful (space_at small s8) s8 m1
may1 = record { mail = tt; core = refl; rest = tt }

may2 : Lawful (space_at small u1) u1 m2
may2 = record { mail = tt; core = refl; rest = tt }

may3 : Lawful (space_at small u2) u2 m3
may3 = record { mail = tt; core = refl; rest = record { part = refl; peer = omega arith; named = refl; alone = λ z is. on_first (z == 1); given = refl } }

may4 : Lawful (space_at small u3) u3 m4
may4 = record { mail = tt; core = refl; rest = tt }

may5 : Lawful (space_at small u4) u4 m5
may5 = record { mail = tt; core = (_, refl); rest = tt }

may6 : Lawful (space_at small u5) u5 m6
may6 = record { mail = record { post = _; sent = refl }; core = (_, refl); rest = tt }

may7 : Lawful (space_at small u6) u6 m7
may7 = record { mail = record { post = _; sent = refl }; core = (_, refl); rest = tt }

may8 : Lawful (space_at small u7) u7 m8
may8 = record { mail = record { post = _; sent = refl }; core = (_, refl); rest = tt }

may9 : Lawful (space_at small u8) u8 m9
may9 = record { mail = record { post = _; sent = refl }; core = (_, refl); rest = tt }

may10 : Lawful (space_at small u9) u9 m10
may10 = record { mail = tt; core = refl; rest = tt }

may11 : Lawful (space_at small u10) u10 m11
may11 = record { mail = tt; core = refl; rest = tt }

may12 : Lawful (space_at small u11) u11 m12
may12 = record { mail = tt; core = (_, refl); rest = tt }

may13 : Lawful (space_at small u12) u12 m13
may13 = record { mail = record { post = _; sent = refl }; core = (_, refl); rest = tt }

may14 : Lawful (space_at small u13) u13 m14
may14 = record { mail = record { post = _; sent = refl }; core = (_, refl); rest = tt }

may15 : Lawful (space_at small u14) u14 m15
may15 = record { mail = tt; core = refl; rest = tt }

may16 : Lawful (space_at small u15) u15 m16
may16 = record { mail = tt; core = (_, refl); rest = tt }

may17 : Lawful (space_at small u16) u16 m17
may17 = record { mail = record { post = _; sent = refl }; core = (_, refl); rest = tt }

may18 : Lawful (space_at small u17) u17 m18
may18 = record { mail = record { post = _; sent = refl }; core = (_, refl); rest = tt }

may19 : Lawful (space_at small u18) u18 m19
may19 = record { mail = record { post = _; sent = refl }; core = (_, refl); rest = tt }

may20 : Lawful (space_at small u19) u19 m20
may20 = record { mail = record { post = _; sent = refl }; core = (_, refl); rest = tt }

may21 : Lawful (space_at small u20) u20 m21
may21 = record { mail = record { post = _; sent = refl }; core = (_, refl); rest = tt }

may22 : Lawful (space_at small u21) u21 m22
may22 = record { mail = tt; core = (_, refl); rest = tt }

may23 : Lawful (space_at small u22) u22 m23
may23 = record { mail = tt; core = refl; rest = tt }

may24 : Lawful (space_at small u23) u23 m24
may24 = record { mail = tt; core = refl; rest = tt }

may25 : Lawful (space_at small u24) u24 m25
may25 = record { mail = tt; core = tt; rest = refl }

may26 : Lawful (space_at small u25) u25 m26
may26 = record { mail = tt; core = refl; rest = tt }

may27 : Lawful (space_at small u26) u26 m27
may27 = record { mail = record { post = _; sent = refl }; core = (_, refl); rest = tt }

may28 : Lawful (space_at small u27) u27 m28
may28 = record { mail = record { post = _; sent = refl }; core = (_, refl); rest = tt }

may29 : Lawful (space_at small u28) u28 m29
may29 = record { mail = record { post = _; sent = refl }; core = tt; rest = tt }

due : IsDue (u29.callers 5) Fine
due = (_, refl, refl)

may30 : Lawful (space_at small u29) u29 m30
may30 = record { mail = tt; core = record { client = refl; call = _; its = refl; same = refl; ends = inl due }; rest = inl due }

ends_it : Runs u21 (Noted m22 ∷ Noted m23 ∷ Noted m24 ∷ Noted m25 ∷ Noted m26 ∷ Noted m27 ∷ Noted m28 ∷ Noted m29 ∷ Noted m30 ∷ []) u30
ends_it = goes may22 to22 (goes {t = u23} may23 refl (goes {t = u24} may24 refl (goes {t = u25} may25 refl (goes {t = u26} may26 refl (goes may27 to27 (goes may28 to28 (goes {t = u29} may29 refl (goes {t = u30} may30 refl (there u30)))))))))

hands_over : Runs u14 (Noted m15 ∷ Noted m16 ∷ Noted m17 ∷ Noted m18 ∷ Noted m19 ∷ Noted m20 ∷ Noted m21 ∷ Noted m22 ∷ Noted m23 ∷ Noted m24 ∷ Noted m25 ∷ Noted m26 ∷ Noted m27 ∷ Noted m28 ∷ Noted m29 ∷ Noted m30 ∷ []) u30
hands_over = goes {t = u15} may15 refl (goes may16 to16 (goes may17 to17 (goes may18 to18 (goes may19 to19 (goes may20 to20 (goes may21 to21 ends_it))))))

votes_now : Runs u9 (Noted m10 ∷ Noted m11 ∷ Noted m12 ∷ Noted m13 ∷ Noted m14 ∷ Noted m15 ∷ Noted m16 ∷ Noted m17 ∷ Noted m18 ∷ Noted m19 ∷ Noted m20 ∷ Noted m21 ∷ Noted m22 ∷ Noted m23 ∷ Noted m24 ∷ Noted m25 ∷ Noted m26 ∷ Noted m27 ∷ Noted m28 ∷ Noted m29 ∷ Noted m30 ∷ []) u30
votes_now = goes {t = u10} may10 refl (goes {t = u11} may11 refl (goes may12 to12 (goes may13 to13 (goes may14 to14 hands_over))))

learns : Runs s8 (Noted m1 ∷ Noted m2 ∷ Noted m3 ∷ Noted m4 ∷ Noted m5 ∷ Noted m6 ∷ Noted m7 ∷ Noted m8 ∷ Noted m9 ∷ Noted m10 ∷ Noted m11 ∷ Noted m12 ∷ Noted m13 ∷ Noted m14 ∷ Noted m15 ∷ Noted m16 ∷ Noted m17 ∷ Noted m18 ∷ Noted m19 ∷ Noted m20 ∷ Noted m21 ∷ Noted m22 ∷ Noted m23 ∷ Noted m24 ∷ Noted m25 ∷ Noted m26 ∷ Noted m27 ∷ Noted m28 ∷ Noted m29 ∷ Noted m30 ∷ []) u30
learns = goes {t = u1} may1 refl (goes {t = u2} may2 refl (goes {t = u3} may3 refl (goes {t = u4} may4 refl (goes may5 to5 (goes may6 to6 (goes may7 to7 (goes may8 to8 (goes may9 to9 votes_now))))))))

pub move_runs : IsMove
move_runs = (to_primed learns).is

pub in_order : IsInOrder
in_order = (λ may. false≢true may.rest.named, λ may. false≢true (sym may.rest))
