-- What each case asks, and what the program's case asks.
use Rattle.std.specs.Prelude.{ℕ, List, map, ℤ, Some, None, Ok, Err, Option, Result}
use Rattle.std.specs.Str.Lines.{lines}
use Rattle.lines.specs.declared.malformed.Malformed.{Malformed}
use Rattle.history.specs.Calls as history
use Rattle.commands.specs.declared.command.Command.{Command}
use Rattle.commands.specs.declared.command.Command.TheVariants.{Open, Claim, Close, Show, Enter, Abandon, Ask, Weigh}
use Rattle.commands.specs.Reading.{line_read}
use Rattle.cases.specs.Charts.{Chart, weighted, choice, sittings, four, three, widest}
use Rattle.cases.specs.Cases
use Rattle.cases.specs.declared.cases.ChartName.{ChartName}
use Rattle.cases.specs.declared.cases.ChartName.TheVariants.{Four, FourTwice, Three, Widest}
use Rattle.cases.specs.declared.cases.Case.{Case}
use Rattle.cases.specs.declared.cases.Case.TheVariants.{Calls, File, Top}

pub data Question : Type 0 where
  calls : Chart → ℕ → List (Option history.Call) → Question
  bytes : List ℕ → Question
  number : ℕ → Question

-- what a case asks
abbrev pub question : Cases.Case → Question
question (Cases.register chart top told) = calls chart top (map (λ l. Some l.call) told)
question (Cases.file bs outcome) = bytes bs
question (Cases.top k) = number k
question (Cases.no_top k numbers) = number k

abbrev pub chart_of : ChartName → Chart
chart_of Four = weighted four
chart_of FourTwice = sittings (weighted four) (weighted four)
chart_of Three = choice three
chart_of Widest = choice widest

-- the call that a command makes; a weighing is none
abbrev pub call_of : Command → List ℤ → Option history.Call
call_of (Open side) ws = Some (history.Open side)
call_of (Claim s t v) ws = Some (history.Claim s t v)
call_of Close ws = Some history.Close
call_of (Show s t) ws = Some (history.Show s t ws)
call_of Enter ws = Some history.Enter
call_of Abandon ws = Some history.Abandon
call_of (Ask s t) ws = Some (history.Ask s t)
call_of (Weigh side s t) ws = None

-- the call that a line asks for
abbrev pub call_read : Result (Option (Command × List ℤ)) Malformed → Option history.Call
call_read (Ok (Some p)) = call_of p.0 p.1
call_read (Ok None) = None
call_read (Err e) = None

-- what a case of the program asks
abbrev pub asked : Case → Question
asked (Calls chart top script) = calls (chart_of chart) top (map (λ l. call_read (line_read l)) (lines script.now))
asked (File bs) = bytes bs.now
asked (Top k) = number k
