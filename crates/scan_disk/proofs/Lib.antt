mod JsonValues
mod Givens
mod Trees
mod Contents
mod Polls
mod Opens
