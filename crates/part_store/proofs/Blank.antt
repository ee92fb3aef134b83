-- The empty store keeps the state before the first entry.
use Rattle.std.proofs.Common.{◌≡◌, Option, None, Some, ap, sym, ◌∙◌}
use Rattle.std.specs.FinMap.{empty, get, get-empty}
use Rattle.std.specs.Option.{option_map}
use Rattle.std.specs.Ordering.{nat_cmp}
use Rattle.std.specs.declared.cmp.Ordering.{Ordering}
use Rattle.byte_fields.specs.Order.{bytes_cmp}
use Rattle.graph_bytes.specs.Spelling.{row}
use Rattle.graph_model.specs.Keys.{tag_cmp, edge_cmp, in_cmp, in_key}
use Rattle.kv_part.specs.Store.{Contents}
use Rattle.part_keys.specs.declared.key.Key.{Key}
use Rattle.part_keys.specs.declared.key.Key.TheVariants.{Tag, OutEdge, InEdge, Prime, DoublePrime, Guard, Client}
use Rattle.part_keys.specs.KeyOrder.{tag_at}
use Rattle.part_keys.specs.Keys.{key}
use Rattle.part_rules.specs.Part.{blank, chain_among}
use Rattle.part_rules.proofs.Computing.{entries_empty}
use Rattle.part_store.specs.Facts.{fact, single_at, double_at}
use Rattle.part_store.specs.Keeps.{Keeps}
use Rattle.part_store.specs.Values.{in_value, guard_value, client_value}
use Rattle.part_store.specs.declared.setting.Setting.{Setting}

-- at no key there is a value
nothing : {K X G : Type 0} (R : K → K → Ordering) (k : K) (x : X) → get {R = R} empty k ≡ Some x → G
nothing {X = X} R k x there = let both : ◌≡◌ {A = Option X} None (Some x) = sym (get-empty R k) ∙ there in absurd cc

blank_fact : (k : Key) → fact blank k ≡ None
blank_fact (Tag part v tag) = ap (option_map row) (get-empty tag_cmp (tag_at v tag))
blank_fact (OutEdge part e) = ap (option_map row) (get-empty edge_cmp e)
blank_fact (InEdge part e) = ap (option_map in_value) (get-empty in_cmp (in_key e))
blank_fact (Prime part e) = ap (λ es. single_at e (chain_among es e)) (entries_empty nat_cmp)
blank_fact (DoublePrime part e) = ap (λ es. double_at e (chain_among es e)) (entries_empty nat_cmp)
blank_fact (Guard part source) = ap (option_map guard_value) (get-empty nat_cmp source)
blank_fact (Client part client) = ap (option_map client_value) (get-empty nat_cmp client)

pub keeps_blank : (s : Setting) (m : Contents) → m ≡ empty → Keeps s blank m
keeps_blank s m is = record {
  facts = λ k fits of. ap (λ (n : Contents). get n (key s.ids k)) is ∙ get-empty bytes_cmp (key s.ids k) ∙ sym (blank_fact k);
  only = λ bytes value there. nothing bytes_cmp bytes value (sym (ap (λ (n : Contents). get n bytes) is) ∙ there);
  fits = record {
    tags = λ t vals there. nothing tag_cmp t vals there;
    out = λ e vals there. nothing edge_cmp e vals there;
    inn = λ k half there. nothing in_cmp k half there;
    chains = λ v chain there. nothing nat_cmp v chain there;
    apart = λ v u c d e there. nothing nat_cmp v c there;
    guards = λ source term there. nothing nat_cmp source term there;
    clients = λ client last there. nothing nat_cmp client last there;
  };
}
