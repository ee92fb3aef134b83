-- Each chain that a Prime began is known, under its number and with its call.
use Rattle.std.proofs.Common.{◌≡◌, ℕ, suc, take, ap, subst, ◌∙◌, arith}
use Rattle.std.specs.FinMap.{get}
use Rattle.std.proofs.lemmas.Option.{slice_get_within}
use Rattle.part_keys.specs.declared.chain.PrimeRec.{PrimeRec}
use Rattle.part_keys.specs.declared.entry.PartEntry.TheVariants.{Prime}
use Rattle.part_keys.specs.declared.proposal.Proposal.{Proposal}
use Rattle.part_keys.specs.declared.proposal.Proposal.TheVariants.{Made}
use Rattle.part_rules.specs.Part.{Part}
use Rattle.part_rules.specs.Machine.{begun_at}
use Rattle.part_rules.specs.Folded.{folded}
use Rattle.chain_world.specs.Places.{At}
use Rattle.chain_world.specs.Course.{Courses}
use Rattle.chain_world.specs.Founded.{AreFounded, AreKnown}
use Rattle.chain_world.specs.State.{Chains, decided_of}
use Rattle.chain_world.specs.Invariant.Protocol.{StandsAt, IsKept}
use Rattle.chain_world.proofs.Fronts.{behind_more}
use Rattle.chain_world.proofs.Members.{at_same}
use Rattle.chain_world.proofs.Naming.{begun_is}

pub are_known : (parts : ℕ) (s : Chains) (k : Courses) → IsKept parts s k → AreFounded parts s.ledger.decided k → AreKnown parts s.ledger.decided k
are_known parts s k kept founded p place term id list absent v was =
    let m : Part = folded parts (take place (decided_of s p)) in
    let b = (begun_is parts (suc place) m id list absent).then v was.is in
    let rec : PrimeRec = begun_at parts m (suc place) id list absent in
    let stands : StandsAt parts (decided_of s p) (suc place) (suc place) rec =
    ap (λ (x : Part). get x.chains (suc place)) (behind_more parts (decided_of s p) place (term, Made (Prime id list absent)) was.there) ∙ b.1 in
    let low = slice_get_within (decided_of s p) place (term, Made (Prime id list absent)) was.there in
    let i = kept.standing p (suc place) (suc place) rec (omega arith) stands in
    let f = (founded p (suc place) i.course i.known).begun in
    let same : f.place ≡ place = (let n = f.number in omega arith) in
    let both = at_same (f.term, Made (Prime i.course.id f.whole f.absent)) (term, Made (Prime id list absent)) (decided_of s p) place
    (subst (λ (n : ℕ). At (decided_of s p) n (f.term, Made (Prime i.course.id f.whole f.absent))) same f.answered.there) was.there in
    let item : Made (Prime i.course.id f.whole f.absent) ≡ Made (Prime id list absent) = ap (λ (d : ℕ × Proposal). d.1) both in
    let its : i.course.id ≡ id = cc in
    record { course = i.course; is = ap (k p) b.0 ∙ i.known; its = its }
