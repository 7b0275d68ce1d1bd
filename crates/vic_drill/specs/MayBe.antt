-- What a client may do.
use Rattle.vic_dict.specs.declared.op.Op.{Op}
use Rattle.vic_dict.specs.Dictionary.{Fits, AreBytesIn}
use Rattle.vic_gen.specs.declared.Act.{Act}
use Rattle.vic_gen.specs.declared.Act.TheVariants as act

-- an operation that may be called: it is within the limits, and its texts are bytes
pub record MayCall (o : Op) : Type 0 where
  pub fits : Fits o
  pub bytes : AreBytesIn o

-- an act that may be done
abbrev pub MayAct : Act → Type 0
MayAct act.Poll = Unit {0}
MayAct (act.Call o) = MayCall o
