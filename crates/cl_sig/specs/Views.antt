-- From signatures and shapes of the program to their plain form. (This project.)
use Rattle.cl_sig.specs.Signatures.{PlainSignature}
use Rattle.cl_sig.specs.Shapes.{PlainShape}
use Rattle.cl_sig.specs.declared.signature.Signature.{Signature}
use Rattle.cl_sig.specs.declared.shape.SetShape.{SetShape}

-- a signature as plain data
abbrev pub plain_signature : Signature → PlainSignature
plain_signature s = record { kind = s.kind; fields = s.fields.items; place = s.place }

-- a shape as plain data
abbrev pub plain_shape : SetShape → PlainShape
plain_shape s = record { set = s.set; class = s.class; common = plain_signature s.common; sites = s.sites.items }
