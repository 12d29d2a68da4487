-- The tests of a noise line whose elements stand on lines of their own. Definitions. Assumes nothing.
use Rattle.std.specs.Prelude.{◌&&◌, List, [], ◌∷◌, eqb, leb}
use Rattle.text.specs.Template.{Value, number_at, list_at_of}
use Rattle.job.specs.Float.{float, is_probability}
use Rattle.job.specs.Checks.{Context, Test, test, each_short, outcome_test, max_elements}
use Rattle.check_values.specs.Slots.{lists_from}

-- of d=3 and d=4
unfoldable pub listed_tests : Context → List Value → List Test
listed_tests c vs =
    test 5 (each_short (lists_from 1 1 vs))
    ∷ outcome_test c (list_at_of 1 vs)
    ∷ test 11 (is_probability (float (number_at 0 vs)))
    ∷ test 12 (leb 1 (number_at 2 vs) && leb (number_at 2 vs) max_elements)
    ∷ test 21 (eqb (number_at 3 vs) (number_at 2 vs))
    ∷ []
