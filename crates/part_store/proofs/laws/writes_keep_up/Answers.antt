use Rattle.part_store.proofs.Changes.{keeps_tag, keeps_guard, keeps_client, keeps_outs, keeps_ins, keeps_begun, keeps_ended}
use Rattle.part_store.proofs.Doubling.{keeps_doubled, keeps_vertex_gone}
use Rattle.part_store.proofs.laws.writes_keep_up.Goals as goal

pub returns-clause-records : goal.returns-clause-records
returns-clause-records c = λ s is p m keeps. (keeps_guard s is.kind p m keeps, keeps_client s is.kind p m keeps)

pub returns-clause-tags : goal.returns-clause-tags
returns-clause-tags c = λ s is p m keeps. (keeps_tag s is.kind p m keeps, λ v tags fits all. keeps_vertex_gone s is.kind v p m tags keeps fits all)

pub returns-clause-halves : goal.returns-clause-halves
returns-clause-halves c = λ s is p m keeps. (λ list fits once. keeps_outs s p list fits is.kind m keeps once, λ v list fits once small. keeps_ins s p v list fits is.kind m keeps once small)

pub returns-clause-chains : goal.returns-clause-chains
returns-clause-chains c = λ s is p m keeps. (λ v chain new fits. keeps_begun s is.kind p m keeps v chain new fits, λ v chain stands single. keeps_doubled s is.kind p m keeps v chain stands single, λ v chain stands. keeps_ended s is.kind p m keeps v chain stands)
