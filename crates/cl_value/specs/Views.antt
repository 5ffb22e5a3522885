-- From the values of the program to their plain form, one function a type. (This project.)
use Rattle.std.specs.Prelude.{map}
use Rattle.cl_value.specs.Plain.{PlainAsk, Out, In, Rd, Inp, Rdp, Eval, Land, PlainRequest, PlainWhat, DidOut, DidIn, DidRd, InpHit, InpMiss, RdpHit, RdpMiss, DidEval, DidLand, PlainAct, PlainStart, Main, Lives, PlainEnd, Ended, Trapped, NoThread, HistoryFull, NoMemory, Stopped, Waiting, PlainReport, PlainHistory, PlainRun}
use Rattle.cl_value.specs.LiveViews.{plain_live}
use Rattle.cl_value.specs.declared.request.Ask.{Ask}
use Rattle.cl_value.specs.declared.request.Ask.TheVariants as asks
use Rattle.cl_value.specs.declared.request.Request.{Request}
use Rattle.cl_value.specs.declared.act.What.{What}
use Rattle.cl_value.specs.declared.act.What.TheVariants as whats
use Rattle.cl_value.specs.declared.act.Act.{Act}
use Rattle.cl_value.specs.declared.process.Start.{Start}
use Rattle.cl_value.specs.declared.process.Start.TheVariants as starts
use Rattle.cl_value.specs.declared.process.End.{End}
use Rattle.cl_value.specs.declared.process.End.TheVariants as ends
use Rattle.cl_value.specs.declared.process.Report.{Report}
use Rattle.cl_value.specs.declared.process.History.{History}
use Rattle.cl_value.specs.declared.process.RunReport.{RunReport}

-- an operation as plain data
abbrev pub plain_ask : Ask → PlainAsk
plain_ask (asks.Out tuple) = Out tuple.items
plain_ask (asks.In template) = In template.items
plain_ask (asks.Rd template) = Rd template.items
plain_ask (asks.Inp template) = Inp template.items
plain_ask (asks.Rdp template) = Rdp template.items
plain_ask (asks.Eval live) = Eval (plain_live live)
plain_ask (asks.Land tuple) = Land tuple.items

-- a request as plain data
abbrev pub plain_request : Request → PlainRequest
plain_request request = record { site = request.site; ask = plain_ask request.ask }

-- what was done, as plain data
abbrev pub plain_what : What → PlainWhat
plain_what (whats.Out tuple) = DidOut tuple.items
plain_what (whats.In template tuple) = DidIn template.items tuple.items
plain_what (whats.Rd template tuple) = DidRd template.items tuple.items
plain_what (whats.InpHit template tuple) = InpHit template.items tuple.items
plain_what (whats.InpMiss template) = InpMiss template.items
plain_what (whats.RdpHit template tuple) = RdpHit template.items tuple.items
plain_what (whats.RdpMiss template) = RdpMiss template.items
plain_what (whats.Eval live) = DidEval (plain_live live)
plain_what (whats.Land tuple) = DidLand tuple.items

-- an act as plain data
abbrev pub plain_act : Act → PlainAct
plain_act act = record { ticket = act.ticket; proc = act.proc; site = act.site; what = plain_what act.what }

-- what a process begins with, as plain data
abbrev pub plain_start : Start → PlainStart
plain_start starts.Main = Main
plain_start (starts.Live site live depth) = Lives site (plain_live live) depth

-- how a process ended, as plain data
abbrev pub plain_end : End → PlainEnd
plain_end (ends.Ended values) = Ended values.items
plain_end (ends.Trapped trap) = Trapped trap
plain_end ends.NoThread = NoThread
plain_end (ends.HistoryFull set) = HistoryFull set
plain_end ends.NoMemory = NoMemory
plain_end (ends.Stopped by) = Stopped by
plain_end ends.Waiting = Waiting

-- the report of a process as plain data
abbrev pub plain_report : Report → PlainReport
plain_report r =
    record {
      name = r.name;
      start = plain_start r.start;
      acts = map plain_act r.acts.items;
      end = plain_end r.end;
      output = r.output.items;
      kids = r.kids.items;
    }

-- the history of a set as plain data
abbrev pub plain_history : History → PlainHistory
plain_history h = record { set = h.set; acts = map plain_act h.acts.items }

-- the report of a run as plain data
abbrev pub plain_run : RunReport → PlainRun
plain_run run =
    record {
      reports = map plain_report run.reports.items;
      histories = map plain_history run.histories.items;
      status = run.status;
    }
