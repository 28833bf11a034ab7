-- Which nodes pass a test (XQuery 1.0, section 3.2.1.2: name tests and kind tests).
use Rattle.std.specs.Prelude.{Bool, true, false, bytes_eq}
use Rattle.gcx_base.specs.declared.kind.Kind.{Kind}
use Rattle.gcx_base.specs.declared.kind.Kind.TheVariants.{Document, Element, Text}
use Rattle.gcx_base.specs.declared.steps.Test.{Test}
use Rattle.gcx_base.specs.declared.steps.Test.TheVariants.{Named, AnyElement, AnyText, AnyNode}

abbrev pub passes : Test → Kind → Bool
passes t Document = false
passes (Named n) (Element name) = bytes_eq n name
passes AnyElement (Element name) = true
passes AnyText (Element name) = false
passes AnyNode (Element name) = true
passes (Named n) (Text b) = false
passes AnyElement (Text b) = false
passes AnyText (Text b) = true
passes AnyNode (Text b) = true
