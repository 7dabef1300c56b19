-- What a name means to a client, as the code answers it: the model's Content, Object and Meaning that each value stands for.
-- A register's name is the one asked for, so that it need not be held.
use Rattle.std.specs.Prelude.{Option, Some, None}
use Rattle.model.specs.declared.Name.{Name}
use Rattle.model.specs.Objects.{Simple, clock, time, date, device, Content, simple, rows, record_number, register, Object, Meaning, known, unknown, Service, Request}
use Rattle.objects.specs.declared.Plain.{Plain}
use Rattle.objects.specs.declared.Plain.TheVariants.{Clock, Time, Date, Device}
use Rattle.objects.specs.declared.Shown.{Shown}
use Rattle.objects.specs.declared.Shown.TheVariants.{Of, Rows, RecordNumber, Register}
use Rattle.objects.specs.declared.Served.{Served}
use Rattle.objects.specs.declared.Query.{Query}

abbrev pub plain_as : Plain → Simple
plain_as Clock = clock
plain_as Time = time
plain_as Date = date
plain_as Device = device

-- what an object of this name shows as attribute 2
abbrev pub shown_as : Name → Shown → Content
shown_as n (Of x) = simple (plain_as x)
shown_as n Rows = rows
shown_as n RecordNumber = record_number
shown_as n (Register r) =
    register (record { name = n; readable = r.readable; scaler = r.scaler; unit = r.unit; value = r.value })

abbrev pub served_as : Name → Served → Object
served_as n o = record { class = o.class; attributes = o.attributes; methods = o.methods; content = shown_as n o.shown }

abbrev pub found_as : Name → Option Served → Meaning
found_as n (Some o) = known (served_as n o)
found_as n None = unknown

-- the request of this service
abbrev pub request_as : Query → Service → Request
request_as q s =
    record {
      client = q.client;
      invoke = q.invoke;
      selective = q.selective;
      blocks = q.blocks;
      class = q.class;
      name = q.name;
      service = s;
    }
