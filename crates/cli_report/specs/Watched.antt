-- The source and the sink whose bytes are looked at.
use Rattle.cli_report.specs.declared.watched_source.WatchedSource.{WatchedSource}
use Rattle.cli_report.specs.declared.watched_sink.WatchedSink.{WatchedSink}

abbrev pub source_of : {S : Type 0} → WatchedSource S → S
source_of w = w.source

abbrev pub sink_of : {K : Type 0} → WatchedSink K → K
sink_of w = w.sink
