-- One replica took a step, and its counterpart followed: all else stands as it stood.
use Rattle.std.proofs.Common.{◌≡◌, ◌≢◌, ◌⊎◌, inl, inr, ℕ, List, ◌++◌, map, Some, Bool, true, false, cond, refl, ap, sym, subst, ◌∙◌, eqb-true}
use Rattle.std.specs.Prelude.{◌==◌, ◌&&◌, slice_get}
use Rattle.std.specs.List.{AllByRecursion}
use Rattle.std.proofs.lemmas.Bool.{eqb-false}
use Rattle.raft_core.proofs.Lists.{all_through-map}
use Rattle.raft_core.specs.Core.{Core, is_leading}
use Rattle.raft_group.specs.Group.{Group, Round}
use Rattle.chain_world.specs.State.{Chains, made_by, made_by_leader}
use Rattle.chain_world.specs.World.{is_part}
use Rattle.replica_model.specs.Replica.{Replica}
use Rattle.replica_model.specs.Stepped.{Leaving, Stepped}
use Rattle.replica_model.specs.declared.input.Tick.{Tick}
use Rattle.statement_run.specs.Caller.{Caller}
use Rattle.chain_world.specs.Ledger.{Ledger}
use Rattle.world_model.specs.State.{Space, Standing, Vacant, Up, Stopped, Down, Gone, Post, posted, moment_in}
use Rattle.world_model.specs.After.{ledger_behind, asked_behind}
use Rattle.world_model.specs.Grouped.{Has}
use Rattle.world_model.specs.Chained.{HasLike, HasMade, HasLeaders, HasNoOther, IsReplica, StandsAs, IsCaller, Chained}
use Rattle.world_model.proofs.Lists.{get_left, get_either}
use Rattle.world_model.proofs.Posting.{all_at}
use Rattle.world_model.proofs.Regroup.{groups_set, placed_set}
use Rattle.world_model.proofs.Applying.{like_on}
use Rattle.world_model.proofs.Calling.{reached_more, heard_on, caller_on, replica_on}
use Rattle.world_model.proofs.Following.{Followed}
use Rattle.world_model.proofs.Moments.{kept_part, kept_other}
use Rattle.world_model.proofs.Went.{Went}

-- no other replica of the part leads the term that this one leads behind its step
abbrev pub LeadsApart : Standing → Core → Type 0
LeadsApart (Up r) core = is_leading r.core.role ≡ true → (r.core.term ≢ core.term) ⊎ (is_leading core.role ≡ false)
LeadsApart (Stopped r i) core = is_leading r.core.role ≡ true → (r.core.term ≢ core.term) ⊎ (is_leading core.role ≡ false)
LeadsApart Vacant core = Unit {0}
LeadsApart (Down d) core = Unit {0}
LeadsApart Gone core = Unit {0}

module _ (sp : Space) (told : ℕ → Tick → Type 0) (placed : ℕ → ℕ → Standing) (callers : ℕ → Caller) (posts : List Post) (ledger : Ledger) (asked : ℕ → ℕ → ℕ → ℕ) (g : ℕ → Group) (c : Chains) (C : Chained sp placed callers posts ledger asked g c)
    (p y : ℕ) (h : Group) (rounds : (x : Round) → Has (g p).rounds x → Has h.rounds x) (now_ledger : Ledger) (core : Core) (f : Went sp told p c h now_ledger core)
    (now_asked : ℕ → ℕ → ℕ → ℕ) (asked_there : (q t round : ℕ) → q ≢ p → now_asked q t round ≡ asked q t round)
    (asked_here : (t round : ℕ) → (t ≢ core.term) ⊎ (is_leading core.role ≡ false) → now_asked p t round ≡ asked p t round) where
  -- elsewhere all leaders are as they were
  elsewhere : (q u : ℕ) → q ≢ p → f.chains.leaders q u ≡ c.leaders q u
  elsewhere q u other = f.others q u (inl other)

  made_there : (q u : ℕ) → q ≢ p → made_by f.chains q u ≡ made_by c q u
  made_there q u other = ap (λ n. cond (u == 0) (n q) (made_by_leader (f.chains.leaders q u))) f.founded ∙ ap (λ o. cond (u == 0) (c.founded q) (made_by_leader o)) (elsewhere q u other)

  -- the other replicas of this part
  replica_here : (r : Replica) → (is_leading r.core.role ≡ true → (r.core.term ≢ core.term) ⊎ (is_leading core.role ≡ false)) → IsReplica sp c (g p).rounds (asked p) p r → IsReplica sp f.chains h.rounds (now_asked p) p r
  replica_here r apart is = replica_on sp c f.chains (g p).rounds h.rounds p r (asked p) (now_asked p) f.posts rounds
      (λ led. f.others p r.core.term (inr (apart led))) (λ led round. asked_here r.core.term round (apart led)) is

  stands_here : (x : Standing) → LeadsApart x core → StandsAs sp c (g p) (asked p) p x → StandsAs sp f.chains h (now_asked p) p x
  stands_here (Up r) apart is = replica_here r apart is
  stands_here (Stopped r i) apart is = (replica_here r apart is.0, heard_on c.posts f.chains.posts f.posts p i is.1)
  stands_here Vacant apart is = tt
  stands_here (Down d) apart is = is
  stands_here Gone apart is = tt

  -- and those of other parts
  replica_there : (q : ℕ) → q ≢ p → (r : Replica) → IsReplica sp c (g q).rounds (asked q) q r → IsReplica sp f.chains (g q).rounds (now_asked q) q r
  replica_there q other r is = replica_on sp c f.chains (g q).rounds (g q).rounds q r (asked q) (now_asked q) f.posts (λ x has. has)
      (λ led. elsewhere q r.core.term other) (λ led round. asked_there q r.core.term round other) is

  stands_there : (q : ℕ) → q ≢ p → (x : Standing) → StandsAs sp c (g q) (asked q) q x → StandsAs sp f.chains (g q) (now_asked q) q x
  stands_there q other (Up r) is = replica_there q other r is
  stands_there q other (Stopped r i) is = (replica_there q other r is.0, heard_on c.posts f.chains.posts f.posts q i is.1)
  stands_there q other Vacant is = tt
  stands_there q other (Down d) is = is
  stands_there q other Gone is = tt

  module _ (now_stands : Standing) (stood : StandsAs sp f.chains h (now_asked p) p now_stands) (apart : (z : ℕ) → z ≢ y → LeadsApart (placed p z) core) where
    stand_all : (q z : ℕ) → StandsAs sp f.chains (groups_set g p h q) (now_asked q) q (placed_set placed p y now_stands q z)
    stand_all q z = go (q == p) refl
      where
        here : q ≡ p → (b : Bool) → z == y ≡ b → StandsAs sp f.chains h (now_asked q) q (cond b now_stands (placed q z))
        here e true is = subst (λ n. StandsAs sp f.chains h (now_asked n) n now_stands) (sym e) stood
        here e false is = subst (λ n. StandsAs sp f.chains h (now_asked n) n (placed n z)) (sym e) (stands_here (placed p z) (apart z (eqb-false z y is)) (C.stand p z))

        go : (b : Bool) → q == p ≡ b → StandsAs sp f.chains (cond b h (g q)) (now_asked q) q (cond (b && (z == y)) now_stands (placed q z))
        go true e = here (eqb-true q p e) (z == y) refl
        go false e = stands_there q (eqb-false q p e) (placed q z) (C.stand q z)

    -- The worlds stay joined.
    pub rejoin : (now_posts : List Post) → ((k : ℕ) (post : Post) → slice_get posts k ≡ Some post → slice_get now_posts k ≡ Some post) → ((k : ℕ) (post : Post) → slice_get now_posts k ≡ Some post → (slice_get posts k ≡ Some post) ⊎ HasLike f.chains.posts post.packet.from post.packet.to post.packet.body post.moment)
        → Chained sp (placed_set placed p y now_stands) callers now_posts now_ledger now_asked (groups_set g p h) f.chains
    rejoin now_posts stay known = record {
      reached = reached_more sp.ids sp.parts c f.chains C.reached f.events f.is;
      ledger_is = f.ledger_is;
      made = λ q is. made q is (q == p) refl;
      led = λ q is. led q is (q == p) refl;
      unled = λ q. unled q (q == p) refl;
      stand = stand_all;
      calls = λ n. subst (λ k. IsCaller now_posts f.chains.posts n (callers n) (k n)) (sym f.clients) (caller_on c.posts f.chains.posts f.posts posts now_posts stay n (callers n) (c.clients n) (C.calls n));
      routed = C.routed;
      mail = λ k post at. elim (known k post at) [
        | inl old ↦ like_on c.posts f.chains.posts f.posts post.packet.from post.packet.to post.packet.body post.moment (C.mail k post old)
        | inr new ↦ new
      ];
      requests = λ n call its. f.posts _ (C.requests n call its);
    }
      where
        made : (q : ℕ) → is_part sp.parts q ≡ true → (b : Bool) → q == p ≡ b → HasMade sp f.chains q (cond b h (g q)).leaders
        made q is true e = subst (λ n. HasMade sp f.chains n h.leaders) (sym (eqb-true q p e)) (f.made (ap (is_part sp.parts) (sym (eqb-true q p e)) ∙ is))
        made q is false e = λ k l at. C.made q is k l at ∙ sym (made_there q l.term (eqb-false q p e))

        led : (q : ℕ) → is_part sp.parts q ≡ true → (b : Bool) → q == p ≡ b → HasLeaders f.chains q (cond b h (g q)).leaders
        led q is true e = subst (λ n. HasLeaders f.chains n h.leaders) (sym (eqb-true q p e)) (f.led (ap (is_part sp.parts) (sym (eqb-true q p e)) ∙ is))
        led q is false e = λ k l at above. (let old = C.led q is k l at above in (old.0, elsewhere q l.term (eqb-false q p e) ∙ old.1))

        unled : (q : ℕ) (b : Bool) → q == p ≡ b → HasNoOther f.chains q (cond b h (g q)).leaders
        unled q true e = subst (λ n. HasNoOther f.chains n h.leaders) (sym (eqb-true q p e)) f.unled
        unled q false e = λ t none. elsewhere q t (eqb-false q p e) ∙ C.unled q t none

-- what leaves in a step, with the moments behind it
abbrev left_behind : (ℕ → ℕ → ℕ → ℕ) → ℕ → ℕ → Core → Stepped → List Post
left_behind asked now p before st = map (posted (asked_behind asked now p before st.replica.core p st.replica.core.term)) st.leaves

-- Behind a step they stay so.
pub rechain : (sp : Space) (told : ℕ → Tick → Type 0) (placed : ℕ → ℕ → Standing) (callers : ℕ → Caller) (posts : List Post) (ledger : Ledger) (asked : ℕ → ℕ → ℕ → ℕ) (g : ℕ → Group) (c : Chains) (C : Chained sp placed callers posts ledger asked g c)
    (p y : ℕ) (h : Group) (now : ℕ) (before : Core) (st : Stepped) → ((x : Round) → Has (g p).rounds x → Has h.rounds x) → (f : Followed sp told p c h (asked_behind asked now p before st.replica.core p) st) → ((z : ℕ) → z ≢ y → LeadsApart (placed p z) st.replica.core)
    → Chained sp (placed_set placed p y (Up st.replica)) callers (posts ++ left_behind asked now p before st)
    (ledger_behind sp ledger p st.replica.core) (asked_behind asked now p before st.replica.core) (groups_set g p h) f.chains
rechain sp told placed callers posts ledger asked g c C p y h now before st rounds f apart =
    rejoin sp told placed callers posts ledger asked g c C p y h rounds (ledger_behind sp ledger p st.replica.core) st.replica.core
    (record {
      events = f.events;
      chains = f.chains;
      is = f.is;
      backed = f.backed;
      ledger_is = f.ledger ∙ ap (λ l. ledger_behind sp l p st.replica.core) C.ledger_is;
      founded = f.founded;
      clients = f.clients;
      others = f.others;
      posts = f.posts;
      made = λ part. f.made;
      led = λ part. f.led;
      unled = f.unled;
    })
    (asked_behind asked now p before st.replica.core) (λ q t round other. kept_part asked now p before st.replica.core q t round other)
    (λ t round other. kept_other asked now p before st.replica.core t round other)
    (Up st.replica) f.replica apart (posts ++ left_behind asked now p before st) (λ k post at. get_left posts (left_behind asked now p before st) k post at)
    (λ k post at. elim (get_either posts (left_behind asked now p before st) k post at) [
      | inl old ↦ inl old
      | inr new ↦ inr (all_at (λ (x : Post). HasLike f.chains.posts x.packet.from x.packet.to x.packet.body x.moment) (left_behind asked now p before st) mail new.0 post new.1)
    ])
  where
    mail : AllByRecursion (λ (x : Post). HasLike f.chains.posts x.packet.from x.packet.to x.packet.body x.moment) (left_behind asked now p before st)
    mail = all_through-map (λ (l : Leaving). HasLike f.chains.posts l.packet.from l.packet.to l.packet.body (moment_in (asked_behind asked now p before st.replica.core p st.replica.core.term) l.round))
        (λ (x : Post). HasLike f.chains.posts x.packet.from x.packet.to x.packet.body x.moment) (posted (asked_behind asked now p before st.replica.core p st.replica.core.term)) (λ l is. is) st.leaves f.mail
