use Rattle.part_keys.proofs.KeyOrders.{keys_order, out_order, in_order, tag_order}
use Rattle.part_keys.proofs.laws.order_of_keys.Goals as goal

pub returns-clause-fields : goal.returns-clause-fields
returns-clause-fields c = keys_order

pub returns-clause-out : goal.returns-clause-out
returns-clause-out c = out_order

pub returns-clause-inn : goal.returns-clause-inn
returns-clause-inn c = in_order

pub returns-clause-tags : goal.returns-clause-tags
returns-clause-tags c = tag_order
