-- What fits its bytes is spelled as these, and nothing else.
use Rattle.std.proofs.Common.{◌≡◌, ℕ, List, Some, refl, sym}
use Rattle.std.proofs.lemmas.Option.{same_Some, none-some}
use Rattle.graph_bytes.specs.declared.id_form.IdForm.{IdForm}
use Rattle.part_keys.specs.declared.entry.PartEntry.{PartEntry}
use Rattle.part_keys.specs.Fits.{Fits}
use Rattle.part_keys.specs.Spelling.{entry}
use Rattle.part_keys.proofs.Deciding.{dec_entry}
use Rattle.replica_model.specs.Bytes.{bytes_where, bytes_of}

spelled_where : {A : Type 0} (is : Dec A) (bytes : List ℕ) → A → bytes_where is bytes ≡ Some bytes
spelled_where (yes holds) bytes a = refl
spelled_where (no none) bytes a = absurd (none a)

pub is_spelled : (form : IdForm) (e : PartEntry) → Fits form e → bytes_of form e ≡ Some (entry form e)
is_spelled form e fits = spelled_where (dec_entry form e) (entry form e) fits

where_spelled : {A : Type 0} (is : Dec A) (own bytes : List ℕ) → bytes_where is own ≡ Some bytes → A × (bytes ≡ own)
where_spelled (yes holds) own bytes e = (holds, sym (same_Some own bytes e))
where_spelled (no none) own bytes e = absurd (none-some bytes e)

pub no_other : (form : IdForm) (e : PartEntry) (bytes : List ℕ) → bytes_of form e ≡ Some bytes → Fits form e × (bytes ≡ entry form e)
no_other form e bytes is = where_spelled (dec_entry form e) (entry form e) bytes is
