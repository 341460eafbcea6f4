-- What a step of a party keeps and sends.
use Rattle.std.specs.Prelude.{ℕ, List, [], ◌∷◌, Some, None}
use Rattle.nb_msgs.specs.declared.node.Step.{Step}
use Rattle.nb_msgs.specs.declared.node.Step.TheVariants as step
use Rattle.nb_msgs.specs.Bodies.{MessageKeepsRules}

-- the message of a step can be written
abbrev pub StepKeepsRules : Step → Type 0
StepKeepsRules (step.Move keep to message) = MessageKeepsRules message
StepKeepsRules other = Unit {0}

-- the item that a step keeps, if it keeps one
abbrev pub kept_in : Step → List (List ℕ)
kept_in (step.Move (Some item) to message) = item ∷ []
kept_in (step.Move None to message) = []
kept_in (step.Ended item end) = item ∷ []
kept_in (step.Ignored why) = []
