-- The names of commands.
use Rattle.std.specs.Prelude.{ℕ, cond, List, [], ◌∷◌, Some, None, codes, Option}
use Rattle.std.specs.Str.{bytes_eq}
use Rattle.commands.specs.declared.name.Name.{Name}
use Rattle.commands.specs.declared.name.Name.TheVariants.{Open, Claim, Close, Show, Enter, Abandon, Ask, Weigh}

abbrev pub name_text : Name → List ℕ
name_text Open = codes "open"
name_text Claim = codes "claim"
name_text Close = codes "close"
name_text Show = codes "show"
name_text Enter = codes "enter"
name_text Abandon = codes "abandon"
name_text Ask = codes "ask"
name_text Weigh = codes "weigh"

-- the first of these names that has just these bytes
abbrev pub named : List ℕ → List Name → Option Name
named f [] = None
named f (n ∷ ns) = cond (bytes_eq f (name_text n)) (Some n) (named f ns)

abbrev pub name_of : List ℕ → Option Name
name_of f = named f (Open ∷ Claim ∷ Close ∷ Show ∷ Enter ∷ Abandon ∷ Ask ∷ Weigh ∷ [])
