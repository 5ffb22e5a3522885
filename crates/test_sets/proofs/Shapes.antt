-- The shape of a set for the tests.
use Rattle.std.proofs.Common.{[]}
use Rattle.cl_sig.specs.Shapes.{PlainShape}
use Rattle.cl_sig.specs.declared.shape.Class.TheVariants as classes
use Rattle.cl_sig.specs.declared.signature.Kind.TheVariants as kinds

abbrev pub shape : PlainShape
shape = record { set = 0; class = classes.List; common = record { kind = kinds.Out; fields = []; place = 0 }; sites = [] }
