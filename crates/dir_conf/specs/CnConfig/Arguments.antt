-- The arguments of an access rule in cn=config (slapd-config(5), `olcAccess`). They are not cut as those of a slapd.conf: line feeds are white space too, and a
-- backslash is a byte like any other.
use Rattle.std.specs.Prelude.{ℕ, Bool, cond, ◌||◌, ◌&&◌, ◌==◌, nat_lt, List, [], ◌∷◌, ◌++◌, Option, None, Some, option_map}
use Rattle.dir_names.specs.Ascii.{line_feed, double_quote}
use Rattle.dir_conf_text.specs.Lines.{is_space}
use Rattle.dir_conf.specs.declared.cn_config.arguments.Spot.{Spot}
use Rattle.dir_conf.specs.declared.cn_config.arguments.Spot.TheVariants.{Between, Plain, Quoted, Closed}
use Rattle.dir_conf.specs.declared.cn_config.arguments.Step.{Step}
use Rattle.dir_conf.specs.declared.cn_config.arguments.Step.TheVariants.{Skip, Take, Close, Refuse}

-- a quote begins a stretch that ends the argument
abbrev pub step_in_argument : ℕ → Step
step_in_argument b = cond (b == double_quote) (Skip Quoted) (Take Plain)

abbrev pub step_of : Spot → ℕ → Step
step_of Between b = cond (is_space b) (Skip Between) (step_in_argument b)
step_of Plain b = cond (is_space b) Close (step_in_argument b)
step_of Quoted b = cond (b == double_quote) (Skip Closed) (cond (b == line_feed) Refuse (Take Quoted))
step_of Closed b = cond (is_space b) Close Refuse

-- the argument that the value's end leaves; an open quote is refused
abbrev pub last_argument : Spot → List ℕ → Option (List (List ℕ))
last_argument Between item = Some []
last_argument Plain item = Some (item ∷ [])
last_argument Quoted item = None
last_argument Closed item = Some (item ∷ [])

abbrev pub after_step : Step → ℕ → List ℕ → (Spot → List ℕ → Option (List (List ℕ))) → Option (List (List ℕ))
after_step (Skip next) b item rest = rest next item
after_step (Take next) b item rest = rest next (item ++ b ∷ [])
after_step Close b item rest = option_map (λ arguments. item ∷ arguments) (rest Between [])
after_step Refuse b item rest = None

abbrev pub arguments_from : Spot → List ℕ → List ℕ → Option (List (List ℕ))
arguments_from spot item [] = last_argument spot item
arguments_from spot item (b ∷ bs) = after_step (step_of spot b) b item (λ next bytes. arguments_from next bytes bs)

-- the arguments of a value. Each is as it stands, or in quotes, or has them from a byte in it to its end; no other quotes are read, and no line feed in them
abbrev pub arguments_of : List ℕ → Option (List (List ℕ))
arguments_of value = arguments_from Between [] value
