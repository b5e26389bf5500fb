-- What a decoded script holds. Assumes nothing.
use Rattle.std.specs.Prelude.{List}
use Rattle.basics.specs.Trail.{items_of}
use Rattle.script.specs.declared.Step.{Step}
use Rattle.script.specs.declared.Script.{Script}

abbrev pub steps_of : Script → List Step
steps_of s = items_of s.steps
