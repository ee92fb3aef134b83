-- Part 2 of 2.
use Rattle.part_keys.specs.declared.vid_kind.VidKind.TheVariants.{Num}
use Rattle.part_store.specs.declared.setting.Setting.{Setting}

-- part 2 of 2, in a space of numbers
abbrev pub here : Setting
here = record { ids = Num; parts = 2; part = 2 }
