-- What a replica's leader sends has its counterpart among what the chains' leader sends.
use Rattle.std.proofs.Common.{◌≡◌, ℕ, suc, List, [], ◌∷◌, Option, Some, None, Bool, true, false, refl, ap, sym, subst}
use Rattle.std.specs.Prelude.{◌==◌, if◌then◌else◌}
use Rattle.std.specs.List.{AllByRecursion, cons_option}
use Rattle.std.proofs.lemmas.Bool.{cond_both}
use Rattle.std.proofs.lemmas.Option.{same_Some, none-some}
use Rattle.raft_core.proofs.Lists.{all_both, all_of-filter_map}
use Rattle.graph_model.specs.declared.answer.Answer.{Answer}
use Rattle.graph_model.specs.declared.call_id.CallId.{CallId}
use Rattle.part_keys.specs.declared.entry.PartEntry.{PartEntry}
use Rattle.part_keys.specs.declared.entry.PartEntry.TheVariants as entry
use Rattle.part_rules.specs.declared.applied.Applied.{Applied}
use Rattle.part_rules.specs.declared.applied.Applied.TheVariants as said
use Rattle.chain_leader.specs.declared.body.ChainBody.{ChainBody}
use Rattle.chain_leader.specs.declared.body.ChainBody.TheVariants as says
use Rattle.chain_leader.specs.declared.letter.Letter.{Letter}
use Rattle.chain_leader.specs.declared.letter.Letter.TheVariants.{Tell, Cross, Back, Again}
use Rattle.chain_leader.specs.Calls.{answer_of}
use Rattle.chain_leader.specs.Leading.{told, reply_to, back_of, answers_of}
use Rattle.chain_world.specs.declared.packet.ChainEnd.{ChainEnd}
use Rattle.chain_world.specs.declared.packet.ChainEnd.TheVariants as ends
use Rattle.chain_world.specs.State.{Post as ChainPost, addressed as chain_addressed, posts_of as chain_posts_of}
use Rattle.replica_model.specs.declared.packet.Place.{Place}
use Rattle.replica_model.specs.declared.packet.Place.TheVariants as place
use Rattle.replica_model.specs.declared.packet.To.{To}
use Rattle.replica_model.specs.declared.packet.To.TheVariants as to
use Rattle.replica_model.specs.declared.packet.Body.TheVariants as body
use Rattle.replica_model.specs.declared.packet.Packet.{Packet}
use Rattle.replica_model.specs.Letters.{to_part, to_place, addressed, packets_of, chain_of}
use Rattle.world_model.specs.Grouped.{Has}
use Rattle.world_model.specs.Chained.{end_in, chain_post, HasMail, HasLike, AreSendersOf}
use Rattle.world_model.proofs.Own.{IsOwnBody, IsOwn, AreOwn}

has_first : {A : Type 0} (o : Option A) (xs : List A) (x : A) → o ≡ Some x → Has (cons_option o xs) x
has_first o xs x e = subst (λ p. Has (cons_option p xs) x) (sym e) (0, refl)

has_rest : {A : Type 0} (o : Option A) (xs : List A) (x : A) → Has xs x → Has (cons_option o xs) x
has_rest None xs x h = h
has_rest (Some y) xs x h = (suc h.0, h.1)

-- where a letter of the rules stands in the world of chains
abbrev pub IsSentThere : List ChainPost → ℕ → ℕ → Letter → Type 0
IsSentThere posts p t (Tell id a) = Has posts (chain_post (ends.Leader p t) (ends.Client id.client) (says.Answer id.number a) 0)
IsSentThere posts p t (Cross q tries b) = Has posts (chain_post (ends.Leader p t) (ends.Part q) b 0) × IsOwnBody t b
IsSentThere posts p t (Back b) = Unit {0}
IsSentThere posts p t (Again after) = Has posts (chain_post (ends.Leader p t) (ends.Leader p t) (says.Resume t after) 0)

abbrev pub AreSentThere : List ChainPost → ℕ → ℕ → List Letter → Type 0
AreSentThere posts p t letters = AllByRecursion (IsSentThere posts p t) letters

module _ (posts : List ChainPost) (p t : ℕ) where
  one_sent : (sender : Option ChainEnd) (letter : Letter) → IsOwn t letter → ((x : ChainPost) → chain_addressed p t sender letter ≡ Some x → Has posts x) → IsSentThere posts p t letter
  one_sent sender (Tell id a) own there = there _ refl
  one_sent sender (Cross q tries b) own there = (there _ refl, own)
  one_sent sender (Back b) own there = tt
  one_sent sender (Again after) own there = there _ refl

  pub letters_sent : (sender : Option ChainEnd) (letters : List Letter) → AreOwn t letters → ((x : ChainPost) → Has (chain_posts_of p t sender letters) x → Has posts x) → AreSentThere posts p t letters
  letters_sent sender [] own there = tt
  letters_sent sender (letter ∷ letters) own there =
      let o = chain_addressed p t sender letter in
      let rest = chain_posts_of p t sender letters in
      (one_sent sender letter own.0 (λ x e. there x (has_first o rest x e)), letters_sent sender letters own.1 (λ x h. there x (has_rest o rest x h)))

  abbrev pub Like : Packet → Type 0
  Like packet = HasLike posts packet.from packet.to packet.body 0

  module _ (me : ℕ) (hints : ℕ → ℕ) where
    like_to : (q tries hint : ℕ) (b : ChainBody) → HasMail posts (place.Peer p me) (end_in q b) b 0 → HasLike posts (place.Peer p me) (to_part q tries hint) (body.Chain b) 0
    like_to q tries hint b mail = cond_both (hint == 0) (to.Part q tries) (to.Peer q hint) (λ (whom : To). HasLike posts (place.Peer p me) whom (body.Chain b) 0) (λ none. mail) (λ known. mail)

    own_mail : (q : ℕ) (b : ChainBody) → IsOwnBody t b → Has posts (chain_post (ends.Leader p t) (ends.Part q) b 0) → HasMail posts (place.Peer p me) (end_in q b) b 0
    own_mail q (says.Remote u v list) own there = record { from = ends.Leader p t; sent = ap (ends.Leader p) (sym own); there = there }
    own_mail q (says.Fence u v edges) own there = record { from = ends.Leader p t; sent = ap (ends.Leader p) (sym own); there = there }
    own_mail q (says.Request number x) own there = absurd own
    own_mail q (says.Answer number answer) own there = absurd own
    own_mail q (says.NotLeader other part hint) own there = tt
    own_mail q (says.Done u v) own there = absurd own
    own_mail q (says.Stale u v above) own there = absurd own
    own_mail q (says.Fenced u v written) own there = absurd own
    own_mail q (says.Resume u after) own there = absurd own

    tell_like : (id : CallId) (a : Answer) → Has posts (chain_post (ends.Leader p t) (ends.Client id.client) (says.Answer id.number a) 0)
        → HasLike posts (place.Peer p me) (to.Client id.client) (body.Chain (says.Answer id.number a)) 0
    tell_like id a there = record { from = ends.Leader p t; sent = tt; there = there }

    rule_like : (letter : Letter) (packet : Packet) → IsSentThere posts p t letter → addressed p me t hints None letter ≡ Some packet → Like packet
    rule_like (Tell id a) packet there e = subst Like (same_Some _ packet e) (tell_like id a there)
    rule_like (Cross q tries b) packet there e = subst Like (same_Some _ packet e) (like_to q tries (hints (chain_of b)) b (own_mail q b there.1 there.0))
    rule_like (Back b) packet there e = absurd (none-some packet e)
    rule_like (Again after) packet there e = subst Like (same_Some _ packet e) (record { from = ends.Leader p t; sent = tt; there = there })

    -- what the rules send
    pub rules_like : (letters : List Letter) → AreSentThere posts p t letters → AllByRecursion Like (packets_of p me t hints None letters)
    rules_like letters sent = all_of-filter_map (IsSentThere posts p t) Like (addressed p me t hints None) rule_like letters sent

-- Answers: to the client, and to the sender of a Remote or Fence of the term that it names.
abbrev pub IsBackOf : ℕ → ChainBody → Type 0
IsBackOf u (says.Done t v) = t ≡ u
IsBackOf u (says.Stale t v above) = t ≡ u
IsBackOf u (says.Fenced t v written) = t ≡ u
IsBackOf u (says.Request number x) = ⊥
IsBackOf u (says.Answer number answer) = ⊥
IsBackOf u (says.NotLeader other part hint) = ⊥
IsBackOf u (says.Remote t v list) = ⊥
IsBackOf u (says.Fence t v edges) = ⊥
IsBackOf u (says.Resume t after) = ⊥

abbrev pub IsBackFor : PartEntry → ChainBody → Type 0
IsBackFor (entry.Remote from t v list) b = IsBackOf t b
IsBackFor (entry.Fence from t v edges) b = IsBackOf t b
IsBackFor (entry.Prime id list absent) b = ⊥
IsBackFor (entry.Local v) b = ⊥
IsBackFor (entry.Double v) b = ⊥
IsBackFor (entry.Close v) b = ⊥
IsBackFor (entry.Abort v) b = ⊥
IsBackFor (entry.Vertex id op) b = ⊥
IsBackFor (entry.Read id query) b = ⊥

abbrev pub IsAnswerOf : Bool → PartEntry → Letter → Type 0
IsAnswerOf own x (Tell id a) = Unit {0}
IsAnswerOf own x (Back b) = (own ≡ true) × IsBackFor x b
IsAnswerOf own x (Cross q tries b) = ⊥
IsAnswerOf own x (Again after) = ⊥

told_are : (own : Bool) (x : PartEntry) (o : Option (CallId × Answer)) → AllByRecursion (IsAnswerOf own x) (told o)
told_are own x None = tt
told_are own x (Some a) = (tt, tt)

remote_back : (from t v : ℕ) (list : _) (answer : Applied) → AllByRecursion (IsAnswerOf true (entry.Remote from t v list)) (reply_to t v answer)
remote_back from t v list said.Done = ((refl, refl), tt)
remote_back from t v list (said.Stale above) = ((refl, refl), tt)
remote_back from t v list (said.Fenced written) = ((refl, refl), tt)
remote_back from t v list said.Old = tt
remote_back from t v list (said.Again outcome) = tt
remote_back from t v list (said.Conflict other) = tt
remote_back from t v list said.Skipped = tt
remote_back from t v list (said.Begun w) = tt
remote_back from t v list (said.Settled id) = tt
remote_back from t v list (said.Doubled id) = tt
remote_back from t v list (said.Closed id) = tt
remote_back from t v list (said.Aborted id) = tt
remote_back from t v list (said.Finished id) = tt
remote_back from t v list said.Nothing = tt

fence_back : (from t v : ℕ) (edges : _) (answer : Applied) → AllByRecursion (IsAnswerOf true (entry.Fence from t v edges)) (reply_to t v answer)
fence_back from t v edges said.Done = ((refl, refl), tt)
fence_back from t v edges (said.Stale above) = ((refl, refl), tt)
fence_back from t v edges (said.Fenced written) = ((refl, refl), tt)
fence_back from t v edges said.Old = tt
fence_back from t v edges (said.Again outcome) = tt
fence_back from t v edges (said.Conflict other) = tt
fence_back from t v edges said.Skipped = tt
fence_back from t v edges (said.Begun w) = tt
fence_back from t v edges (said.Settled id) = tt
fence_back from t v edges (said.Doubled id) = tt
fence_back from t v edges (said.Closed id) = tt
fence_back from t v edges (said.Aborted id) = tt
fence_back from t v edges (said.Finished id) = tt
fence_back from t v edges said.Nothing = tt

backs_are : (x : PartEntry) (answer : Applied) → AllByRecursion (IsAnswerOf true x) (back_of x answer)
backs_are (entry.Remote from t v list) answer = remote_back from t v list answer
backs_are (entry.Fence from t v edges) answer = fence_back from t v edges answer
backs_are (entry.Prime id list absent) answer = tt
backs_are (entry.Local v) answer = tt
backs_are (entry.Double v) answer = tt
backs_are (entry.Close v) answer = tt
backs_are (entry.Abort v) answer = tt
backs_are (entry.Vertex id op) answer = tt
backs_are (entry.Read id query) answer = tt

backs_if : (own : Bool) (x : PartEntry) (answer : Applied) → AllByRecursion (IsAnswerOf own x) (if own then back_of x answer else [])
backs_if true x answer = backs_are x answer
backs_if false x answer = tt

pub answers_are : (own : Bool) (x : PartEntry) (answer : Applied) → AllByRecursion (IsAnswerOf own x) (answers_of own x answer)
answers_are own x answer = all_both (IsAnswerOf own x) (told (answer_of x answer)) (if own then back_of x answer else []) (told_are own x (answer_of x answer)) (backs_if own x answer)

-- the sender that a replica keeps is one that the chains' leader keeps too
abbrev pub KeepsToo : Bool → PartEntry → Option Place → Option ChainEnd → Type 0
KeepsToo own x ours theirs = own ≡ true → (s : Place) → ours ≡ Some s → (e : ChainEnd) × (theirs ≡ Some e) × AreSendersOf x s e

module _ (posts : List ChainPost) (p me t : ℕ) (hints : ℕ → ℕ) where
  back_mail : (from u : ℕ) (b : ChainBody) (s : Place) (e : ChainEnd) → (peer : ℕ) → s ≡ place.Peer from peer → e ≡ ends.Leader from u → IsBackOf u b
      → Has posts (chain_post (ends.Leader p t) e b 0) → HasLike posts (place.Peer p me) (to_place s) (body.Chain b) 0
  back_mail from u b s e peer place_is end_is back there =
      subst (λ (w : Place). HasLike posts (place.Peer p me) (to_place w) (body.Chain b) 0) (sym place_is)
      (go b back (subst (λ (w : ChainEnd). Has posts (chain_post (ends.Leader p t) w b 0)) end_is there))
    where
      go : (c : ChainBody) → IsBackOf u c → Has posts (chain_post (ends.Leader p t) (ends.Leader from u) c 0) → HasLike posts (place.Peer p me) (to.Peer from peer) (body.Chain c) 0
      go (says.Done k v) is has = record { from = ends.Leader p t; sent = tt; there = subst (λ n. Has posts (chain_post (ends.Leader p t) (ends.Leader from n) (says.Done k v) 0)) (sym is) has }
      go (says.Stale k v above) is has = record { from = ends.Leader p t; sent = tt; there = subst (λ n. Has posts (chain_post (ends.Leader p t) (ends.Leader from n) (says.Stale k v above) 0)) (sym is) has }
      go (says.Fenced k v written) is has = record { from = ends.Leader p t; sent = tt; there = subst (λ n. Has posts (chain_post (ends.Leader p t) (ends.Leader from n) (says.Fenced k v written) 0)) (sym is) has }
      go (says.Request number x) is has = absurd is
      go (says.Answer number answer) is has = absurd is
      go (says.NotLeader other part hint) is has = absurd is
      go (says.Remote k v list) is has = absurd is
      go (says.Fence k v edges) is has = absurd is
      go (says.Resume k after) is has = absurd is

  back_like : (x : PartEntry) (b : ChainBody) (s : Place) (e : ChainEnd) → AreSendersOf x s e → IsBackFor x b → Has posts (chain_post (ends.Leader p t) e b 0)
      → HasLike posts (place.Peer p me) (to_place s) (body.Chain b) 0
  back_like (entry.Remote from u v list) b s e are back there = back_mail from u b s e are.peer are.is are.known_is back there
  back_like (entry.Fence from u v edges) b s e are back there = back_mail from u b s e are.peer are.is are.known_is back there
  back_like (entry.Prime id list absent) b s e are back there = absurd back
  back_like (entry.Local v) b s e are back there = absurd back
  back_like (entry.Double v) b s e are back there = absurd back
  back_like (entry.Close v) b s e are back there = absurd back
  back_like (entry.Abort v) b s e are back there = absurd back
  back_like (entry.Vertex id op) b s e are back there = absurd back
  back_like (entry.Read id query) b s e are back there = absurd back

  module _ (own : Bool) (x : PartEntry) (theirs : Option ChainEnd) where
    answer_like : (ours : Option Place) → KeepsToo own x ours theirs → (letter : Letter) → IsAnswerOf own x letter
        → ((q : ChainPost) → chain_addressed p t theirs letter ≡ Some q → Has posts q) → (packet : Packet) → addressed p me t hints ours letter ≡ Some packet → Like posts p t packet
    answer_like ours keeps (Tell id a) is there packet e = subst (Like posts p t) (same_Some _ packet e) (tell_like posts p t me hints id a (there _ refl))
    answer_like None keeps (Back b) is there packet e = absurd (none-some packet e)
    answer_like (Some s) keeps (Back b) is there packet e =
        (let known = keeps is.0 s refl in
        subst (Like posts p t) (same_Some _ packet e) (back_like x b s known.0 known.2 is.1 (there _ (ap (λ o. chain_addressed p t o (Back b)) known.1))))
    answer_like ours keeps (Cross q tries b) is there packet e = absurd is
    answer_like ours keeps (Again after) is there packet e = absurd is

    pub answers_like : (ours : Option Place) → KeepsToo own x ours theirs → (letters : List Letter) → AllByRecursion (IsAnswerOf own x) letters
        → ((q : ChainPost) → Has (chain_posts_of p t theirs letters) q → Has posts q) → AllByRecursion (Like posts p t) (packets_of p me t hints ours letters)
    answers_like ours keeps [] are there = tt
    answers_like ours keeps (letter ∷ letters) are there =
        let o = chain_addressed p t theirs letter in
        let rest = chain_posts_of p t theirs letters in
        with_one (addressed p me t hints ours letter) (packets_of p me t hints ours letters)
        (answer_like ours keeps letter are.0 (λ q e. there q (has_first o rest q e)))
        (answers_like ours keeps letters are.1 (λ q h. there q (has_rest o rest q h)))
      where
        with_one : (a : Option Packet) (packets : List Packet) → ((packet : Packet) → a ≡ Some packet → Like posts p t packet) → AllByRecursion (Like posts p t) packets → AllByRecursion (Like posts p t) (cons_option a packets)
        with_one None packets here more = more
        with_one (Some packet) packets here more = (here packet refl, more)
