-- Which entries have a spelling can be told.
use Rattle.std.proofs.Common.{ℕ, ◌^◌}
use Rattle.std.proofs.Math.Decide.{map_dec, dec_lt}
use Rattle.byte_fields.proofs.Deciding.{dec_never, dec_both}
use Rattle.graph_bytes.specs.declared.id_form.IdForm.{IdForm}
use Rattle.graph_bytes.proofs.Deciding.{dec_small, dec_vid, dec_row, dec_call, dec_edges, dec_halves, dec_query}
use Rattle.graph_model.specs.declared.op.Op.{Op}
use Rattle.graph_model.specs.declared.op.Op.TheVariants as ops
use Rattle.part_keys.specs.Fits.{FitsSent, FitsChange, Fits}
use Rattle.part_keys.specs.declared.entry.PartEntry.{PartEntry}
use Rattle.part_keys.specs.declared.entry.PartEntry.TheVariants.{Prime, Local, Double, Close, Abort, Remote, Fence, Vertex, Read}

dec_sent : (source term v : ℕ) → Dec (FitsSent source term v)
dec_sent source term v = map_dec (λ x. record { part = x.0; term_fits = x.1.0; v_fits = x.1.1 }) (λ x. (x.part, (x.term_fits, x.v_fits))) (dec_both (dec_small source) (dec_both (dec_lt term (2 ^ 64)) (dec_lt v (2 ^ 64))))

dec_change : (form : IdForm) (made : Op) → Dec (FitsChange form made)
dec_change form (ops.PutVertex v tag vals absent) = map_dec (λ x. (x.0, x.1.0, x.1.1)) (λ x. (x.0, (x.1, x.2))) (dec_both (dec_vid form v) (dec_both (dec_lt tag (2 ^ 32)) (dec_row vals)))
dec_change form (ops.DelVertex v) = dec_vid form v
dec_change form (ops.PutEdges rows absent) = dec_never
dec_change form (ops.DelEdges list) = dec_never
dec_change form (ops.Read q) = dec_never

-- an entry has a spelling in this form, or it has none
pub dec_entry : (form : IdForm) (e : PartEntry) → Dec (Fits form e)
dec_entry form (Prime id list absent) = dec_both (dec_call id) (dec_halves form list)
dec_entry form (Local v) = dec_lt v (2 ^ 64)
dec_entry form (Double v) = dec_lt v (2 ^ 64)
dec_entry form (Close v) = dec_lt v (2 ^ 64)
dec_entry form (Abort v) = dec_lt v (2 ^ 64)
dec_entry form (Remote source term v list) = dec_both (dec_sent source term v) (dec_halves form list)
dec_entry form (Fence source term v list) = dec_both (dec_sent source term v) (dec_edges form list)
dec_entry form (Vertex id made) = dec_both (dec_call id) (dec_change form made)
dec_entry form (Read id q) = dec_both (dec_call id) (dec_query form q)
