use Rattle.byte_fields.proofs.FieldLaws.{apart}
use Rattle.wal_frames.specs.Spelling.{FitsRecord, body}
use Rattle.wal_frames.specs.Reading.{body_at}
use Rattle.wal_frames.proofs.Laws.{body_again}
use Rattle.wal_frames.proofs.reading.one_spelling.Goals as goal

pub returns : goal.returns
returns c = λ r s a b r-fits s-fits same. apart body_at body FitsRecord body_again r s a b r-fits s-fits same
