use Rattle.std.proofs.Common.{map, reverse}
use Rattle.std.specs.Prelude.{vec_items}
use Rattle.casreg_race.proofs.Written.{on_err, on_err_then, on_ok_then, text_whole, text_in_answers, text_in_histories}
use Rattle.casreg_race.proofs.race.write_race.Goals as goal

pub returns-in_err-write_answers-clause-front : goal.returns-in_err-write_answers-clause-front
returns-in_err-write_answers-clause-front g c =
    on_err c.from_residual.result _
    (text_in_answers c.args.results.now.bad.items (map vec_items c.args.results.now.told.items) (reverse c.args.book.now.marks) (g.K.Sink.contents c.args.sink.now) (g.K.Sink.contents c.args.sink.now) (g.K.Sink.contents c.write_answers.new.sink) c.in_err-write_answers.ensures.front)

pub returns-clause-all : goal.returns-clause-all
returns-clause-all g c =
    on_ok_then c.write_histories.result _ _
    (text_whole c.args.results.now.bad.items (map vec_items c.args.results.now.told.items) (reverse c.args.book.now.marks) (g.K.Sink.contents c.args.sink.now) (g.K.Sink.contents c.write_answers.new.sink) (g.K.Sink.contents c.write_histories.new.sink) c.in_ok-write_answers.ensures.all)
    c.write_histories.ensures.all

pub returns-clause-front : goal.returns-clause-front
returns-clause-front g c =
    on_err_then c.write_histories.result _ _
    (text_in_histories c.args.results.now.bad.items (map vec_items c.args.results.now.told.items) (reverse c.args.book.now.marks) (g.K.Sink.contents c.args.sink.now) (g.K.Sink.contents c.write_answers.new.sink) (g.K.Sink.contents c.write_histories.new.sink) c.in_ok-write_answers.ensures.all)
    c.write_histories.ensures.front
