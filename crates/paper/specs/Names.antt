-- Names that are printed.
--   rule_name r            the name of a rule of the table of settings, as the demo prints it
-- Assumes nothing.
use Rattle.std.specs.Prelude.{List, ℕ, codes}
use Rattle.paper.specs.declared.Rule.{Rule}
use Rattle.paper.specs.declared.Rule.TheVariants.{Equal, NotEqual, Hash, Pass}

abbrev pub rule_name : Rule → List ℕ
rule_name Equal = codes "equal"
rule_name NotEqual = codes "not-equal"
rule_name Hash = codes "hash"
rule_name Pass = codes "pass"
