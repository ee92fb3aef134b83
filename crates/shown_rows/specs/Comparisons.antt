-- Which values meet a relation. It holds or it doesn't: with null it doesn't, nor between values of different types.
use Rattle.std.specs.Prelude.{Bool, false}
use Rattle.std.specs.declared.cmp.Ordering.{Ordering}
use Rattle.std.specs.Ordering.{is_eq, is_ne, is_lt, is_le, is_gt, is_ge, int_cmp, nat_cmp, bool_cmp}
use Rattle.std.specs.Cmp.Lexicographic.{slice_cmp}
use Rattle.graph_model.specs.declared.val.Val.{Val}
use Rattle.graph_model.specs.declared.val.Val.TheVariants.{Int, Flag, Words}
use Rattle.ngql_syntax.specs.declared.cond.Rel.{Rel}
use Rattle.ngql_syntax.specs.declared.cond.Rel.TheVariants.{Eq, Ne, Lt, Le, Gt, Ge}

-- whether two things in this order meet a relation
abbrev pub orders_meet : Rel → Ordering → Bool
orders_meet Eq order = is_eq order
orders_meet Ne order = is_ne order
orders_meet Lt order = is_lt order
orders_meet Le order = is_le order
orders_meet Gt order = is_gt order
orders_meet Ge order = is_ge order

-- flags are equal or not, and have no order
abbrev pub flags_meet : Rel → Ordering → Bool
flags_meet Eq order = is_eq order
flags_meet Ne order = is_ne order
flags_meet others order = false

-- numbers by value, texts by their bytes
abbrev pub meets : Rel → Val → Val → Bool
meets rel (Int a) (Int b) = orders_meet rel (int_cmp a b)
meets rel (Words a) (Words b) = orders_meet rel (slice_cmp nat_cmp a b)
meets rel (Flag a) (Flag b) = flags_meet rel (bool_cmp a b)
meets rel a b = false
