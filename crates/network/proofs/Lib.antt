mod Wrong
