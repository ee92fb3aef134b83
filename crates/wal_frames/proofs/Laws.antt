-- The laws of bodies: what is read is spelled so, and what is spelled so is read again, whatever follows it.
use Rattle.std.proofs.Common.{◌≡◌, ℕ, zero, suc, ◌-◌, ◌^◌, ◌<◌, ◌≤◌, false, cond, ltb, eqb, ◌==◌, List, [], ◌∷◌, ◌++◌, length, Ok, Err, refl, sym, ap, subst, ◌∙◌, append_assoc, arith}
use Rattle.std.specs.List.{flat_map, AllByRecursion, list_any}
use Rattle.std.proofs.lemmas.Bool.{ltb-false, le-ltb, eqb-true}
use Rattle.std.proofs.lemmas.List.{nil_from_length}
use Rattle.byte_fields.specs.Fields.{number, ids, IsRisingBy}
use Rattle.byte_fields.specs.Reading.{◌>>=◌, misfit, byte_at, number_at, id_at, rising_at, many_at, whole, inside}
use Rattle.byte_fields.proofs.Steps.{IsBytes, IsBytes-rest, Takes, Takes-then, bind_ok, guard_ok, guard_read, test_ok, ok_is}
use Rattle.byte_fields.proofs.Numbers.{wide4, wide8, number_takes, number_again}
use Rattle.byte_fields.proofs.FieldLaws.{byte_takes, byte_again, id_takes, id_again, rising_takes, rising_again, many_takes, many_again, whole_takes, whole_again, inside_takes, inside_again}
use Rattle.raft_log.specs.Peers.{IsRisingAbove}
use Rattle.raft_log.specs.declared.config.Config.{Config}
use Rattle.raft_log.specs.declared.entry.Entry.{Entry}
use Rattle.raft_log.specs.declared.entry.Item.{Item}
use Rattle.raft_log.specs.declared.entry.Item.TheVariants.{NoOp, Members, Payload}
use Rattle.raft_log.specs.declared.record.Record.{Record}
use Rattle.wal_frames.specs.Spelling.{config, item, entry, entries, body, FitsConfig, FitsItem, FitsEntry, FitEntries, FitsRecord}
use Rattle.wal_frames.specs.Reading.{peer_at, peers_at, config_at, item_of, entry_at, entries_at, body_at}
use Rattle.wal_frames.proofs.OtherKinds.{no_item}
use Rattle.wal_frames.proofs.Peers.{IsAbove, peer_above}

-- ---- peers

peer_takes : (others : List ℕ) (low : ℕ) (bytes : List ℕ) (id : ℕ) (rest : List ℕ) → IsBytes bytes → peer_at others low bytes ≡ Ok (id, rest) → Takes bytes (number 4 id) rest × IsAbove others low id
unfolding peer_at
peer_takes others low bytes id rest fits e =
    let b = bind_ok (id_at 4294967295 low bytes) (λ x. cond (list_any (λ peer. peer == x.0) others) (Err (misfit bytes)) (Ok x)) (id, rest) e in
    let g = guard_ok (list_any (λ peer. peer == b.0.0) others) (misfit bytes) b.0 (id, rest) b.2 in
    let t = id_takes 4294967295 low bytes b.0.0 b.0.1 fits b.1 in
    (subst (λ (p : ℕ × List ℕ). Takes bytes (number 4 p.0) p.1) g.1 t.0, peer_above others low bytes id rest e)

peer_again : (others : List ℕ) (low id : ℕ) (rest : List ℕ) → IsAbove others low id → peer_at others low (number 4 id ++ rest) ≡ Ok (id, rest)
unfolding peer_at
peer_again others low id rest is =
    rw (id_again 4294967295 low id rest is.fits is.above (omega (arith, is.fits)), is.apart) refl

abbrev IsApart : List ℕ → List ℕ → Type 0
IsApart others list = AllByRecursion (λ id. list_any (λ peer. peer == id) others ≡ false) list

peers_are : (others : List ℕ) (low : ℕ) (list : List ℕ) → IsRisingBy (IsAbove others) low list → IsRisingAbove low list × IsApart others list
peers_are others low [] rising = (tt, tt)
peers_are others low (id ∷ list) rising =
    let more = peers_are others id list rising.1 in
    ((rising.0.above, rising.0.fits, more.0), (rising.0.apart, more.1))

are_peers : (others : List ℕ) (low : ℕ) (list : List ℕ) → IsRisingAbove low list → IsApart others list → IsRisingBy (IsAbove others) low list
are_peers others low [] rising apart = tt
are_peers others low (id ∷ list) rising apart =
    (record { above = rising.0; fits = rising.1; apart = apart.0 }, are_peers others id list rising.2 apart.1)

no_others : (list : List ℕ) → IsApart [] list
no_others [] = tt
no_others (id ∷ list) = (refl, no_others list)

-- a count and as many peers
record ArePeers (others : List ℕ) (room : ℕ) (bytes list rest : List ℕ) : Type 0 where
  takes : Takes bytes (length list ∷ ids list) rest
  rising : IsRisingAbove 0 list
  apart : IsApart others list
  few : length list ≤ room

peers_takes : (others : List ℕ) (room : ℕ) (bytes list rest : List ℕ) → IsBytes bytes → peers_at others room bytes ≡ Ok (list, rest) → ArePeers others room bytes list rest
unfolding peers_at
peers_takes others room bytes list rest fits e =
    let a = bind_ok (byte_at bytes) (λ count. cond (ltb room count.0) (Err (misfit bytes)) (rising_at (peer_at others) count.0 0 count.1)) (list, rest) e in
    let t = byte_takes bytes a.0.0 a.0.1 fits a.1 in
    let g = guard_read (ltb room a.0.0) (misfit bytes) (rising_at (peer_at others) a.0.0 0 a.0.1) (list, rest) a.2 in
    let u = rising_takes (peer_at others) (IsAbove others) (peer_takes others) a.0.0 0 a.0.1 list rest t.0.rest_fits g.1 in
    let are = peers_are others 0 list u.1 in
    let both = Takes-then bytes (a.0.0 ∷ []) a.0.1 (ids list) rest t.0 u.0 in
    let few : a.0.0 ≤ room = ltb-false _ _ g.0 in
    record {
      takes = subst (λ (n : ℕ). Takes bytes (n ∷ ids list) rest) (sym u.2) both;
      rising = are.0;
      apart = are.1;
      few = omega (arith, u.2, few);
    }

peers_again : (others : List ℕ) (room : ℕ) (list rest : List ℕ) → IsRisingAbove 0 list → IsApart others list → length list ≤ room → peers_at others room (length list ∷ (ids list ++ rest)) ≡ Ok (list, rest)
unfolding peers_at
peers_again others room list rest rising apart few =
    rw (byte_again (length list) (ids list ++ rest), le-ltb room (length list) few) (rising_again (peer_at others) (IsAbove others) (peer_again others) 0 list rest (are_peers others 0 list rising apart))

-- ---- configurations

config_takes : (bytes : List ℕ) (c : Config) (rest : List ℕ) → IsBytes bytes → config_at bytes ≡ Ok (c, rest) → Takes bytes (config c) rest × FitsConfig c
unfolding config_at
config_takes bytes c rest fits e =
    let a = bind_ok (peers_at [] 8 bytes) (λ voters. peers_at voters.0 (8 - length voters.0) voters.1 >>= λ learners. Ok (record { voters = voters.0; learners = learners.0 }, learners.1)) (c, rest) e in
    let t = peers_takes [] 8 bytes a.0.0 a.0.1 fits a.1 in
    let b = bind_ok (peers_at a.0.0 (8 - length a.0.0) a.0.1) (λ learners. Ok (record { voters = a.0.0; learners = learners.0 }, learners.1)) (c, rest) a.2 in
    let u = peers_takes a.0.0 (8 - length a.0.0) a.0.1 b.0.0 b.0.1 t.takes.rest_fits b.1 in
    let both = Takes-then bytes (length a.0.0 ∷ ids a.0.0) a.0.1 (length b.0.0 ∷ ids b.0.0) b.0.1 t.takes u.takes in
    let voters_few = t.few in
    let learners_few = u.few in
    let made : Config × List ℕ = (record { voters = a.0.0; learners = b.0.0 }, b.0.1) in
    let is : FitsConfig made.0 = record {
      voters = (t.rising, voters_few);
      learners = (u.rising, omega arith);
      is = record { apart = u.apart; few = omega arith };
    } in
    subst (λ (p : Config × List ℕ). Takes bytes (config p.0) p.1 × FitsConfig p.0) (ok_is made (c, rest) b.2) (both, is)

config_again : (c : Config) (rest : List ℕ) → FitsConfig c → config_at (config c ++ rest) ≡ Ok (c, rest)
unfolding config_at
config_again c rest fits =
    let few = fits.is.few in
    let regrouped : config c ++ rest ≡ length c.voters ∷ (ids c.voters ++ (length c.learners ∷ (ids c.learners ++ rest))) = append_assoc (length c.voters ∷ ids c.voters) (length c.learners ∷ ids c.learners) rest in
    let voters = peers_again [] 8 c.voters (length c.learners ∷ (ids c.learners ++ rest)) fits.voters.0 (no_others c.voters) fits.voters.1 in
    let learners = peers_again c.voters (8 - length c.voters) c.learners rest fits.learners.0 fits.is.apart (omega arith) in
    rw (regrouped, voters, learners) refl

-- ---- items

item_takes : (bytes : List ℕ) (i : Item) → IsBytes bytes → item_of bytes ≡ Ok i → (bytes ≡ item i) × FitsItem i
unfolding item_of byte_at
item_takes [] i fits e = absurd cc
item_takes (zero ∷ rest) i fits e =
    let g = test_ok (eqb (length rest) 0) (misfit rest) NoOp i e in
    let none : rest ≡ [] = nil_from_length rest (eqb-true _ _ g.0) in
    subst (λ (x : Item). (0 ∷ rest ≡ item x) × FitsItem x) g.1 (ap (λ (r : List ℕ). 0 ∷ r) none, tt)
item_takes (suc zero ∷ rest) i fits e =
    let a = bind_ok (whole config_at rest) (λ c. Ok (Members c)) i e in
    let t = whole_takes config_at config FitsConfig config_takes rest a.0 (IsBytes-rest 1 rest fits) a.1 in
    subst (λ (x : Item). (1 ∷ rest ≡ item x) × FitsItem x) (ok_is (Members a.0) i a.2) (ap (λ (r : List ℕ). 1 ∷ r) t.0, t.1)
item_takes (suc (suc zero) ∷ rest) i fits e =
    subst (λ (x : Item). (2 ∷ rest ≡ item x) × FitsItem x) (ok_is (Payload rest) i e) (refl, tt)
item_takes (suc (suc (suc kind)) ∷ rest) i fits e = let no = sym (no_item (suc (suc (suc kind))) rest (omega arith)) ∙ e in absurd cc

item_again : (i : Item) → FitsItem i → item_of (item i) ≡ Ok i
unfolding item_of byte_at
item_again NoOp fits = refl
item_again (Members c) fits = rw (whole_again config_at config FitsConfig config_again c fits) refl
item_again (Payload bytes) fits = refl

-- ---- entries

-- an entry that is read is spelled by the bytes that were taken
pub entry_takes : (bytes : List ℕ) (e : Entry) (rest : List ℕ) → IsBytes bytes → entry_at bytes ≡ Ok (e, rest) → Takes bytes (entry e) rest × FitsEntry e
unfolding entry_at
entry_takes bytes x rest fits e =
    let a = bind_ok (number_at 8 bytes) (λ term. number_at 4 term.1 >>= λ len. inside len.0 item_of len.1 >>= λ i. Ok (record { term = term.0; item = i.0 }, i.1)) (x, rest) e in
    let b = bind_ok (number_at 4 a.0.1) (λ len. inside len.0 item_of len.1 >>= λ i. Ok (record { term = a.0.0; item = i.0 }, i.1)) (x, rest) a.2 in
    let d = bind_ok (inside b.0.0 item_of b.0.1) (λ i. Ok (record { term = a.0.0; item = i.0 }, i.1)) (x, rest) b.2 in
    let t = number_takes 8 wide8 bytes a.0.0 a.0.1 fits a.1 in
    let u = number_takes 4 wide4 a.0.1 b.0.0 b.0.1 t.0.rest_fits b.1 in
    let v = inside_takes item_of item FitsItem item_takes b.0.0 b.0.1 d.0.0 d.0.1 u.0.rest_fits d.1 in
    let two = Takes-then bytes (number 8 a.0.0) a.0.1 (number 4 b.0.0) b.0.1 t.0 u.0 in
    let three = Takes-then bytes (number 8 a.0.0 ++ number 4 b.0.0) b.0.1 (item d.0.0) d.0.1 two v.0 in
    let made : Entry × List ℕ = (record { term = a.0.0; item = d.0.0 }, d.0.1) in
    let all : Takes bytes (entry made.0) made.1 = subst (λ (n : ℕ). Takes bytes (number 8 a.0.0 ++ number 4 n ++ item d.0.0) d.0.1) (sym v.2) three in
    let is : FitsEntry made.0 = record { term = t.1; len = subst (λ (n : ℕ). n < 2 ^ 32) (sym v.2) u.1; item_fits = v.1 } in
    subst (λ (p : Entry × List ℕ). Takes bytes (entry p.0) p.1 × FitsEntry p.0) (ok_is made (x, rest) d.2) (all, is)

-- an entry's spelling is read again, whatever follows it
pub entry_again : (e : Entry) (rest : List ℕ) → FitsEntry e → entry_at (entry e ++ rest) ≡ Ok (e, rest)
unfolding entry_at
entry_again e rest fits =
    let regrouped : entry e ++ rest ≡ number 8 e.term ++ (number 4 (length (item e.item)) ++ (item e.item ++ rest)) = append_assoc (number 8 e.term ++ number 4 (length (item e.item))) (item e.item) rest ∙ append_assoc (number 8 e.term) (number 4 (length (item e.item))) (item e.item ++ rest) in
    rw (regrouped, number_again 8 e.term (number 4 (length (item e.item)) ++ (item e.item ++ rest)) fits.term, number_again 4 (length (item e.item)) (item e.item ++ rest) fits.len, inside_again item_of item FitsItem item_again e.item rest fits.item_fits) refl

-- entries that are read are spelled by the bytes that were taken
pub entries_takes : (bytes : List ℕ) (es : List Entry) (rest : List ℕ) → IsBytes bytes → entries_at bytes ≡ Ok (es, rest) → Takes bytes (entries es) rest × FitEntries es
unfolding entries_at
entries_takes bytes es rest fits e =
    let a = bind_ok (number_at 4 bytes) (λ count. many_at entry_at count.0 count.1) (es, rest) e in
    let t = number_takes 4 wide4 bytes a.0.0 a.0.1 fits a.1 in
    let u = many_takes entry_at entry FitsEntry entry_takes a.0.0 a.0.1 es rest t.0.rest_fits a.2 in
    let both = Takes-then bytes (number 4 a.0.0) a.0.1 (flat_map entry es) rest t.0 u.0 in
    (subst (λ (n : ℕ). Takes bytes (number 4 n ++ flat_map entry es) rest) (sym u.2) both, record { count = subst (λ (n : ℕ). n < 2 ^ 32) (sym u.2) t.1; each = u.1 })

-- the spelling of entries is read again, whatever follows it
pub entries_again : (es : List Entry) (rest : List ℕ) → FitEntries es → entries_at (entries es ++ rest) ≡ Ok (es, rest)
unfolding entries_at
entries_again es rest fits =
    rw (append_assoc (number 4 (length es)) (flat_map entry es) rest, number_again 4 (length es) (flat_map entry es ++ rest) fits.count) (many_again entry_at entry FitsEntry entry_again es rest fits.each)

-- ---- bodies

-- a record that is read is spelled by the bytes that were taken
pub body_takes : (bytes : List ℕ) (r : Record) (rest : List ℕ) → IsBytes bytes → body_at bytes ≡ Ok (r, rest) → Takes bytes (body r) rest × FitsRecord r
unfolding body_at
body_takes bytes r rest fits e =
    let a = bind_ok (number_at 8 bytes) (λ term. number_at 4 term.1 >>= λ vote. number_at 8 vote.1 >>= λ keep. entries_at keep.1 >>= λ es. Ok (record { term = term.0; vote = vote.0; keep = keep.0; entries = es.0 }, es.1)) (r, rest) e in
    let b = bind_ok (number_at 4 a.0.1) (λ vote. number_at 8 vote.1 >>= λ keep. entries_at keep.1 >>= λ es. Ok (record { term = a.0.0; vote = vote.0; keep = keep.0; entries = es.0 }, es.1)) (r, rest) a.2 in
    let k = bind_ok (number_at 8 b.0.1) (λ keep. entries_at keep.1 >>= λ es. Ok (record { term = a.0.0; vote = b.0.0; keep = keep.0; entries = es.0 }, es.1)) (r, rest) b.2 in
    let d = bind_ok (entries_at k.0.1) (λ es. Ok (record { term = a.0.0; vote = b.0.0; keep = k.0.0; entries = es.0 }, es.1)) (r, rest) k.2 in
    let t = number_takes 8 wide8 bytes a.0.0 a.0.1 fits a.1 in
    let u = number_takes 4 wide4 a.0.1 b.0.0 b.0.1 t.0.rest_fits b.1 in
    let v = number_takes 8 wide8 b.0.1 k.0.0 k.0.1 u.0.rest_fits k.1 in
    let w = entries_takes k.0.1 d.0.0 d.0.1 v.0.rest_fits d.1 in
    let two = Takes-then bytes (number 8 a.0.0) a.0.1 (number 4 b.0.0) b.0.1 t.0 u.0 in
    let three = Takes-then bytes (number 8 a.0.0 ++ number 4 b.0.0) b.0.1 (number 8 k.0.0) k.0.1 two v.0 in
    let four = Takes-then bytes (number 8 a.0.0 ++ number 4 b.0.0 ++ number 8 k.0.0) k.0.1 (entries d.0.0) d.0.1 three w.0 in
    let made : Record × List ℕ = (record { term = a.0.0; vote = b.0.0; keep = k.0.0; entries = d.0.0 }, d.0.1) in
    let is : FitsRecord made.0 = record { term = t.1; vote = u.1; keep = v.1; entries_fit = w.1 } in
    subst (λ (p : Record × List ℕ). Takes bytes (body p.0) p.1 × FitsRecord p.0) (ok_is made (r, rest) d.2) (four, is)

-- a record's body is read again, whatever follows it
pub body_again : (r : Record) (rest : List ℕ) → FitsRecord r → body_at (body r ++ rest) ≡ Ok (r, rest)
unfolding body_at
body_again r rest fits =
    let e1 = append_assoc (number 8 r.term ++ number 4 r.vote ++ number 8 r.keep) (entries r.entries) rest in
    let e2 = append_assoc (number 8 r.term ++ number 4 r.vote) (number 8 r.keep) (entries r.entries ++ rest) in
    let e3 = append_assoc (number 8 r.term) (number 4 r.vote) (number 8 r.keep ++ (entries r.entries ++ rest)) in
    let regrouped : body r ++ rest ≡ number 8 r.term ++ (number 4 r.vote ++ (number 8 r.keep ++ (entries r.entries ++ rest))) = e1 ∙ e2 ∙ e3 in
    rw (regrouped, number_again 8 r.term (number 4 r.vote ++ (number 8 r.keep ++ (entries r.entries ++ rest))) fits.term, number_again 4 r.vote (number 8 r.keep ++ (entries r.entries ++ rest)) fits.vote, number_again 8 r.keep (entries r.entries ++ rest) fits.keep, entries_again r.entries rest fits.entries_fit) refl
