use Rattle.std.proofs.Common.{◌∙◌, ap, Err}
use Rattle.netplan_top.proofs.RunFacts.{ends_answered, ends_too_long}
use Rattle.netplan_top.proofs.top.answer_input.Goals as goal

pub returns-in-Ok-answer_of : goal.returns-in-Ok-answer_of
returns-in-Ok-answer_of g c =
    ends_answered c.args.command (record {
      left = g.S.Source.left c.args.source.now;
      left' = g.S.Source.left c.read_all.new.source;
      source_faults = g.S.Source.faults c.args.source.now;
      source_faults' = g.S.Source.faults c.read_all.new.source;
      written = g.K.Sink.written c.args.sink.now;
      written' = g.K.Sink.written c.print.new.sink;
      sink_faults = g.K.Sink.faults c.args.sink.now;
      sink_faults' = g.K.Sink.faults c.print.new.sink;
      sure = g.K.Sink.sure c.args.sink.now;
    }) c.in-Ok-answer_of.answer.status c.print.result c.in-Ok.input.items c.deref-in-Ok-answer_of.result.now
    (record { taken = c.in-Ok.ensures.whole; ended = c.in-Ok.ensures.end; short = rw (← c.deref.ensures.value, c.deref.ensures.len) c.in-Ok.ensures.short_enough })
    (rw (c.deref-in-Ok-answer_of.ensures.value, ← c.deref.ensures.value) c.in-Ok-answer_of.ensures) c.print.ensures

pub returns-in-Ok-refused : goal.returns-in-Ok-refused
returns-in-Ok-refused g c =
    ends_too_long c.args.command (record {
      left = g.S.Source.left c.args.source.now;
      left' = g.S.Source.left c.read_all.new.source;
      source_faults = g.S.Source.faults c.args.source.now;
      source_faults' = g.S.Source.faults c.read_all.new.source;
      written = g.K.Sink.written c.args.sink.now;
      written' = g.K.Sink.written c.print-in-Ok-refused.new.sink;
      sink_faults = g.K.Sink.faults c.args.sink.now;
      sink_faults' = g.K.Sink.faults c.print-in-Ok-refused.new.sink;
      sure = g.K.Sink.sure c.args.sink.now;
    }) c.print-in-Ok-refused.result c.deref-in-Ok-refused.result.now
    (record {
      taken = c.read_all.ensures.too_long (c.in-Err-TooLong.is ∙ ap Err c.in-Err-TooLong.field-0-is);
      text_is = c.deref-in-Ok-refused.ensures.value ∙ c.in-Ok-refused.ensures;
    }) c.print-in-Ok-refused.ensures
