-- A client's own calls that aren't sealed.
use Rattle.vic_dict.specs.Dictionary.{Fits}
use Rattle.vic_rules.specs.declared.state.Own.{Own}

-- the texts of its operation are within the limits
abbrev pub IsOwn : Own → Type 0
IsOwn o = Fits o.op
