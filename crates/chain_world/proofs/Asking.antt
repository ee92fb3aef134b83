-- Clients make calls and are answered, and leaders answer reads.
use Rattle.part_keys.specs.Kinds.{is_entry_of}
use Rattle.std.proofs.Common.{◌≡◌, ◌≢◌, ◌⊎◌, inl, inr, ℕ, ◌+◌, ◌≤◌, List, [], ◌∷◌, Some, None, true, false, ◌&&◌, refl, ap, sym, subst, ◌∙◌, arith, eqb-true, append-nil}
use Rattle.std.specs.Prelude.{◌==◌, is_none, if◌then◌else◌}
use Rattle.std.proofs.lemmas.Bool.{cond_both, and_parts, eqb-false}
use Rattle.std.proofs.lemmas.Option.{same_Some, none-some}
use Rattle.graph_model.specs.declared.answer.Answer.{Answer}
use Rattle.graph_model.specs.declared.answer.Answer.TheVariants as said
use Rattle.graph_model.specs.declared.call_id.CallId.{CallId}
use Rattle.graph_model.specs.declared.graph_step.GStep.TheVariants.{Invoke, Read, Reply}
use Rattle.graph_model.specs.declared.op.Op.{Op}
use Rattle.graph_model.specs.Ops.{is_op}
use Rattle.part_keys.specs.Routing.{belongs, routes_to}
use Rattle.chain_leader.specs.declared.body.ChainBody.{ChainBody}
use Rattle.chain_leader.specs.declared.body.ChainBody.TheVariants as says
use Rattle.chain_leader.specs.Calls.{entry_of, part_of_op}
use Rattle.part_keys.specs.declared.vid_kind.VidKind.{VidKind}
use Rattle.chain_world.specs.Places.{Among}
use Rattle.chain_world.specs.Ledger.{invokes, replies, reply_steps}
use Rattle.chain_world.specs.Invariant.Discipline.{IsOneOf, IsInvoked, IsReplied, IsRightReply, MayInvoke, MayReply}
use Rattle.chain_world.specs.State.{Post, Client, Chains, decided_of}
use Rattle.chain_world.specs.World.{is_whole, may_invoke, request_of, with_invoke, with_reply}
use Rattle.chain_world.specs.Invariant.Protocol.{IsMeant, IsKept}
use Rattle.chain_world.specs.Invariant.Safe.{AreAsking, IsSafe}
use Rattle.chain_world.proofs.Steps.{one_of_left, one_of_right, one_of_either}
use Rattle.chain_world.proofs.Calling.{invokes_sound}
use Rattle.chain_world.proofs.Answering.{replies_sound}
use Rattle.chain_world.proofs.Staying.{is_chains}
use Rattle.chain_world.proofs.Telling.{told_kept}
use Rattle.chain_world.proofs.Growing.{longer_itself, rights_on}

one_post : (b : ChainBody) (post other : Post) → Among post (other ∷ []) → is_chains other.packet.body ≡ false → is_chains post.packet.body ≡ false
one_post b post other (inl same) plain = ap (λ (x : Post). is_chains x.packet.body) same ∙ plain
one_post b post other (inr none) plain = absurd none

-- a client's new state, looked at from any client
client_split : (f : ℕ → Client) (c : ℕ) (new : Client) (e : ℕ) (P : Client → Type 0) → ((e ≡ c) → P new) → ((e ≢ c) → P (f e)) → P (if e == c then new else f e)
client_split f c new e P here other = cond_both (e == c) new (f e) P (λ same. here (eqb-true e c same)) (λ apart. other (eqb-false e c apart))

module _ (parts : ℕ) (s : Chains) (safe : IsSafe parts s) where
  -- Invoke
  module _ (ids : VidKind) (id : CallId) (op : Op) (may : may_invoke ids parts (s.clients id.client) id op ≡ true) where
    abbrev after_call : Chains
    after_call = with_invoke parts s id op

    whole : is_whole ids parts id op ≡ true
    whole = (and_parts (is_none (s.clients id.client).asks && (id.number == (s.clients id.client).last + 1)) (is_whole ids parts id op) may).1

    routed : routes_to parts (part_of_op parts op) (entry_of id op) ≡ true
    routed = (and_parts (is_entry_of ids (entry_of id op)) (routes_to parts (part_of_op parts op) (entry_of id op)) (and_parts (is_op op) (belongs ids parts (part_of_op parts op) (entry_of id op)) whole).1).1

    number : id.number ≡ (s.clients id.client).last + 1
    number = eqb-true id.number ((s.clients id.client).last + 1)
        (and_parts (is_none (s.clients id.client).asks) (id.number == (s.clients id.client).last + 1) (and_parts (is_none (s.clients id.client).asks && (id.number == (s.clients id.client).last + 1)) (is_whole ids parts id op) may).0).1

    may_call : MayInvoke s.ledger id op
    may_call = record {
      fresh = λ other h. (let a = safe.asking.invoked id other h in let b = number in omega arith);
      sized = (and_parts (is_op op) (belongs ids parts (part_of_op parts op) (entry_of id op)) whole).0;
    }

    call_there : IsInvoked (invokes s.ledger id op).steps id op
    call_there = one_of_right s.ledger.steps (Invoke id op ∷ []) (Invoke id op) (inl refl)

    -- a step is one of the old ones or this Invoke
    invoked_split : (i : CallId) (o : Op) → IsInvoked (invokes s.ledger id op).steps i o → IsInvoked s.ledger.steps i o ⊎ (i ≡ id)
    invoked_split i o h = elim (one_of_either s.ledger.steps (Invoke id op ∷ []) (Invoke i o) h) [
      | inl old ↦ inl old
      | inr new ↦ inr (elim new [ inl same ↦ (let f : i ≡ id = cc in f) | inr none ↦ absurd none ])
    ]

    replied_split : (i : CallId) → IsReplied (invokes s.ledger id op).steps i → IsReplied s.ledger.steps i
    replied_split i h = elim (one_of_either s.ledger.steps (Invoke id op ∷ []) (Reply i h.0) h.1) [
      | inl old ↦ (h.0, old)
      | inr new ↦ elim new [ inl same ↦ absurd (let f : Invoke id op ≡ Reply i h.0 = same in cc) | inr none ↦ absurd none ]
    ]

    -- the numbers of clients only rise
    last_rises : (c : ℕ) → (s.clients c).last ≤ (after_call.clients c).last
    last_rises c = client_split s.clients id.client (record { last = id.number; asks = Some (id, op) }) c (λ (x : Client). (s.clients c).last ≤ x.last)
        (λ same. (let a = number in let b = ap (λ (n : ℕ). (s.clients n).last) same in omega arith)) (λ other. omega arith)

    asking_call : AreAsking after_call
    asking_call = record {
      asks = λ c i o. client_split s.clients id.client (record { last = id.number; asks = Some (id, op) }) c
          (λ (x : Client). x.asks ≡ Some (i, o) → (i.client ≡ c) × IsInvoked (invokes s.ledger id op).steps i o × (IsReplied (invokes s.ledger id op).steps i → ⊥))
          (λ same e. (let f : id ≡ i = ap (λ (y : CallId × Op). y.0) (same_Some (id, op) (i, o) e) in let g : op ≡ o = ap (λ (y : CallId × Op). y.1) (same_Some (id, op) (i, o) e) in (
            ap (λ (y : CallId). y.client) (sym f) ∙ sym same,
            subst (λ (y : CallId). IsInvoked (invokes s.ledger id op).steps y o) f (subst (IsInvoked (invokes s.ledger id op).steps id) g call_there),
            λ h. (let r = safe.asking.replied i (replied_split i h) in let n = number in
                let a = ap (λ (y : CallId). y.number) f in let b = ap (λ (y : CallId). (s.clients y.client).last) f in omega arith),
          )))
          (λ other e. (let old = safe.asking.asks c i o e in (old.0, one_of_left s.ledger.steps (Invoke id op ∷ []) (Invoke i o) old.1, λ h. old.2 (replied_split i h))));
      invoked = λ i o h. elim (invoked_split i o h) [
        | inl old ↦ (let a = safe.asking.invoked i o old in let b = last_rises i.client in omega arith)
        | inr same ↦ subst (λ (y : CallId). y.number ≤ (after_call.clients y.client).last) (sym same)
            (client_split s.clients id.client (record { last = id.number; asks = Some (id, op) }) id.client (λ (x : Client). id.number ≤ x.last) (λ _. omega arith) (λ other. absurd (other refl)))
      ];
      replied = λ i h. (let a = safe.asking.replied i (replied_split i h) in let b = last_rises i.client in omega arith);
    }

    request_meant : (z : Chains) → IsInvoked z.ledger.steps id op → IsMeant parts z safe.courses (request_of parts id op)
    request_meant z there = record { part = part_of_op parts op; receiver = refl; asked = record { id = id; op = op; invoked = there; entry = refl; routed = routed; part = refl } }

    pub invoke_safe : IsSafe parts after_call
    invoke_safe = record {
      courses = safe.courses;
      kept = told_kept parts s safe.courses safe.kept (invokes s.ledger id op).steps (request_of parts id op ∷ []) after_call.clients
          (λ post among. one_post (says.Request id.number (entry_of id op)) post (request_of parts id op) among refl)
          (λ i o h. one_of_left s.ledger.steps (Invoke id op ∷ []) (Invoke i o) h)
          (rights_on parts s.ledger (invokes s.ledger id op) (Invoke id op ∷ []) refl (λ q. longer_itself (decided_of s q)))
          (λ post among. elim among [ inl same ↦ subst (IsMeant parts after_call safe.courses) (sym same) (request_meant after_call call_there) | inr none ↦ absurd none ]);
      ledger = invokes_sound parts s.ledger safe.courses safe.ledger id op may_call;
      asking = asking_call;
      founded = safe.founded;
      last = safe.last;
    }

  -- a call ends
  module _ (id : CallId) (op : Op) (is_open : (s.clients id.client).asks ≡ Some (id, op)) (a : Answer) (m : ℕ) (right : IsRightReply parts s.ledger id a m) where
    abbrev after_reply : Chains
    after_reply = with_reply s id a m

    its : (id.client ≡ id.client) × IsInvoked s.ledger.steps id op × (IsReplied s.ledger.steps id → ⊥)
    its = safe.asking.asks id.client id op is_open

    may_reply : MayReply parts s.ledger id a m
    may_reply = record { op = op; invoked = its.1; unsaid = its.2; right = right }

    -- the steps of a reply make no call, and answer this one alone
    none_invoked : (b : Answer) (i : CallId) (o : Op) → IsInvoked (reply_steps id m b) i o → ⊥
    none_invoked said.Fine i o (inl same) = (let f : Reply id said.Fine ≡ Invoke i o = same in cc)
    none_invoked said.Fine i o (inr none) = none
    none_invoked said.Skipped i o (inl same) = (let f : Reply id said.Skipped ≡ Invoke i o = same in cc)
    none_invoked said.Skipped i o (inr none) = none
    none_invoked said.Pending i o (inl same) = (let f : Reply id said.Pending ≡ Invoke i o = same in cc)
    none_invoked said.Pending i o (inr none) = none
    none_invoked (said.Conflict other) i o (inl same) = (let f : Reply id (said.Conflict other) ≡ Invoke i o = same in cc)
    none_invoked (said.Conflict other) i o (inr none) = none
    none_invoked said.Cancelled i o (inl same) = (let f : Reply id said.Cancelled ≡ Invoke i o = same in cc)
    none_invoked said.Cancelled i o (inr none) = none
    none_invoked said.Unknown i o (inl same) = (let f : Reply id said.Unknown ≡ Invoke i o = same in cc)
    none_invoked said.Unknown i o (inr none) = none
    none_invoked (said.Shown shown) i o (inl same) = (let f : Read id m ≡ Invoke i o = same in cc)
    none_invoked (said.Shown shown) i o (inr (inl same)) = (let f : Reply id (said.Shown shown) ≡ Invoke i o = same in cc)
    none_invoked (said.Shown shown) i o (inr (inr none)) = none

    same_reply : (b c : Answer) (i : CallId) → Reply id b ≡ Reply i c → i ≡ id
    same_reply b c i e = cc

    its_reply : (b : Answer) (i : CallId) (c : Answer) → IsOneOf (reply_steps id m b) (Reply i c) → i ≡ id
    its_reply said.Fine i c (inl same) = same_reply said.Fine c i same
    its_reply said.Fine i c (inr none) = absurd none
    its_reply said.Skipped i c (inl same) = same_reply said.Skipped c i same
    its_reply said.Skipped i c (inr none) = absurd none
    its_reply said.Pending i c (inl same) = same_reply said.Pending c i same
    its_reply said.Pending i c (inr none) = absurd none
    its_reply (said.Conflict other) i c (inl same) = same_reply (said.Conflict other) c i same
    its_reply (said.Conflict other) i c (inr none) = absurd none
    its_reply said.Cancelled i c (inl same) = same_reply said.Cancelled c i same
    its_reply said.Cancelled i c (inr none) = absurd none
    its_reply said.Unknown i c (inl same) = same_reply said.Unknown c i same
    its_reply said.Unknown i c (inr none) = absurd none
    its_reply (said.Shown shown) i c (inl same) = absurd (let f : Read id m ≡ Reply i c = same in cc)
    its_reply (said.Shown shown) i c (inr (inl same)) = same_reply (said.Shown shown) c i same
    its_reply (said.Shown shown) i c (inr (inr none)) = absurd none

    replied_before : (i : CallId) → IsReplied after_reply.ledger.steps i → IsReplied s.ledger.steps i ⊎ (i ≡ id)
    replied_before i h = elim (one_of_either s.ledger.steps (reply_steps id m a) (Reply i h.0) h.1) [ inl old ↦ inl (h.0, old) | inr new ↦ inr (its_reply a i h.0 new) ]

    same_last : (c : ℕ) → (after_reply.clients c).last ≡ (s.clients c).last
    same_last c = client_split s.clients id.client (record { last = (s.clients id.client).last; asks = None }) c (λ (x : Client). x.last ≡ (s.clients c).last) (λ same. ap (λ (n : ℕ). (s.clients n).last) (sym same)) (λ _. refl)

    asking_reply : AreAsking after_reply
    asking_reply = record {
      asks = λ c i o. client_split s.clients id.client (record { last = (s.clients id.client).last; asks = None }) c
          (λ (x : Client). x.asks ≡ Some (i, o) → (i.client ≡ c) × IsInvoked after_reply.ledger.steps i o × (IsReplied after_reply.ledger.steps i → ⊥))
          (λ same e. absurd (none-some (i, o) e))
          (λ other e. (let old = safe.asking.asks c i o e in (
            old.0,
            one_of_left s.ledger.steps (reply_steps id m a) (Invoke i o) old.1,
            λ h. elim (replied_before i h) [ inl before ↦ old.2 before | inr same ↦ other (sym old.0 ∙ ap (λ (y : CallId). y.client) same) ],
          )));
      invoked = λ i o h. elim (one_of_either s.ledger.steps (reply_steps id m a) (Invoke i o) h) [
        | inl old ↦ (let x = safe.asking.invoked i o old in let y = same_last i.client in omega arith)
        | inr new ↦ absurd (none_invoked a i o new)
      ];
      replied = λ i h. elim (replied_before i h) [
        | inl old ↦ (let x = safe.asking.replied i old in let y = same_last i.client in omega arith)
        | inr same ↦ subst (λ (n : CallId). n.number ≤ (after_reply.clients n.client).last) (sym same) (let x = safe.asking.invoked id op its.1 in let y = same_last id.client in omega arith)
      ];
    }

    pub reply_safe : IsSafe parts after_reply
    reply_safe = record {
      courses = safe.courses;
      kept = subst (λ (posts : List Post). IsKept parts (record { ledger = after_reply.ledger; founded = s.founded; leaders = s.leaders; posts = posts; clients = after_reply.clients }) safe.courses) (append-nil s.posts)
          (told_kept parts s safe.courses safe.kept (replies s.ledger id a m).steps [] after_reply.clients (λ post none. absurd none)
          (λ i o h. one_of_left s.ledger.steps (reply_steps id m a) (Invoke i o) h)
          (rights_on parts s.ledger (replies s.ledger id a m) (reply_steps id m a) refl (λ q. longer_itself (decided_of s q)))
          (λ post none. absurd none));
      ledger = replies_sound parts s.ledger safe.courses safe.ledger id a m may_reply;
      asking = asking_reply;
      founded = safe.founded;
      last = safe.last;
    }
