-- The spelling that the bytes of entries are, in each version: what a replica is told of them.
use Rattle.std.proofs.Common.{◌≡◌, ℕ, List, Option, None, Some, Result, Ok, Err, ap, subst}
use Rattle.std.proofs.lemmas.Option.{same_Some, none-some}
use Rattle.byte_fields.specs.declared.misfit.Misfit.{Misfit}
use Rattle.byte_fields.specs.Reading.{whole}
use Rattle.byte_fields.proofs.FieldLaws.{whole_again}
use Rattle.graph_bytes.specs.declared.id_form.IdForm.{IdForm}
use Rattle.part_keys.specs.declared.entry.PartEntry.{PartEntry}
use Rattle.part_keys.specs.Spelled.{Spelling}
use Rattle.part_keys.specs.Spelling.{form_of, entry}
use Rattle.part_keys.specs.Fits.{Fits}
use Rattle.part_keys.specs.Reading.{entry_at}
use Rattle.part_keys.proofs.EntryFormats.{entry_format}
use Rattle.part_keys.proofs.Deciding.{dec_entry}

-- these bytes, where it is so
abbrev pub bytes_where : {A : Type 0} → Dec A → List ℕ → Option (List ℕ)
bytes_where (yes is) bytes = Some bytes
bytes_where (no none) bytes = None

-- an entry's bytes, where it fits them
abbrev pub bytes_of : IdForm → PartEntry → Option (List ℕ)
bytes_of form e = bytes_where (dec_entry form e) (entry form e)

-- what was read, if it fits
abbrev pub what_fits : {X : Type 0} → Result X Misfit → Option X
what_fits (Ok x) = Some x
what_fits (Err misfit) = None

-- the entry that all of the bytes are, if any
abbrev pub entry_in : IdForm → List ℕ → Option PartEntry
entry_in form bytes = what_fits (whole (entry_at form) bytes)

-- what was spelled is read back
pub back_where : (form : IdForm) (e : PartEntry) (fits : Dec (Fits form e)) (bytes : List ℕ) → bytes_where fits (entry form e) ≡ Some bytes → entry_in form bytes ≡ Some e
back_where form e (yes fits) bytes is = subst (λ (b : List ℕ). entry_in form b ≡ Some e) (same_Some (entry form e) bytes is) (ap (λ (r : Result PartEntry Misfit). what_fits r) (whole_again (entry_at form) (entry form) (Fits form) (entry_format form).again e fits))
back_where form e (no none) bytes is = absurd (none-some bytes is)

-- the bytes of entries in a version, as the replicas are told of them
abbrev pub spelling_of : ℕ → Spelling
spelling_of version = record { spell = bytes_of (form_of version); read = entry_in (form_of version); back = λ e bytes is. back_where (form_of version) e (dec_entry (form_of version) e) bytes is }

-- what fits its bytes is spelled as these
abbrev pub BytesAreSpelled : Type 0
BytesAreSpelled = (version : ℕ) (e : PartEntry) → Fits (form_of version) e → (spelling_of version).spell e ≡ Some (entry (form_of version) e)

-- what is spelled fits, and its bytes are these
abbrev pub NothingElseIsSpelled : Type 0
NothingElseIsSpelled = (version : ℕ) (e : PartEntry) (bytes : List ℕ) → (spelling_of version).spell e ≡ Some bytes → Fits (form_of version) e × (bytes ≡ entry (form_of version) e)

-- what reading all of the bytes gives is read of them
abbrev pub EntriesAreRead : Type 0
EntriesAreRead = (version : ℕ) (bytes : List ℕ) (e : PartEntry) → whole (entry_at (form_of version)) bytes ≡ Ok e → (spelling_of version).read bytes ≡ Some e

-- where some field doesn't fit, no entry is read
abbrev pub NothingElseIsRead : Type 0
NothingElseIsRead = (version : ℕ) (bytes : List ℕ) (misfit : Misfit) → whole (entry_at (form_of version)) bytes ≡ Err misfit → (spelling_of version).read bytes ≡ None
